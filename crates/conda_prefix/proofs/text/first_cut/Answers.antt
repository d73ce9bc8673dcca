use Rattle.conda_prefix.proofs.PieceLemmas.{cut_at}
use Rattle.conda_prefix.proofs.text.first_cut.Goals as goal

pub returns-in-Some : goal.returns-in-Some
returns-in-Some c =
    rw (c.split_at.ensures.front, c.split_at-in-Some.ensures.back, c.split_at.ensures.back, c.requires.width) (cut_at c.args.placeholder.now c.args.bytes.now c.in-Some.at c.in-Some.ensures)
