use Rattle.conda_history.proofs.NewlineLemmas.{cut_at, uncut}
use Rattle.conda_history.proofs.pieces.next_line.Goals as goal

pub returns-in-Some-clause-line : goal.returns-in-Some-clause-line
returns-in-Some-clause-line c =
    rw (c.split_at.ensures.front, c.split_at-in-Some.ensures.back, c.split_at.ensures.back)
    (cut_at c.args.bytes.now c.in-Some.at c.in-Some.ensures)

pub returns-in-None-clause-line : goal.returns-in-None-clause-line
returns-in-None-clause-line c = uncut c.args.bytes.now c.in-None.ensures
