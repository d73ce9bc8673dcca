use Rattle.std.proofs.Common.{arith}
use Rattle.std.proofs.lemmas.Str.{IsCharBoundary-after_ascii}
use Rattle.conda_spec.proofs.CutLemmas.{first_of}
use Rattle.conda_spec.proofs.cuts.behind.Goals as goal

pub range_from-requires : goal.range_from-requires
range_from-requires c =
    λ _. let first = first_of c.args.mark c.args.text.now c.requires.begins in
    IsCharBoundary-after_ascii c.args.text.now 0 c.utf8.text first.0 (omega (arith, first.1, c.requires.ascii))
