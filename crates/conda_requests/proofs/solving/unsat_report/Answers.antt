use Rattle.std.proofs.Common.{All, Contains, subst, sym}
use Rattle.conda_encode.specs.declared.encoded.Encoded.{Encoded}
use Rattle.conda_requests.proofs.solving.unsat_report.Goals as goal

pub explain-requires-clause-inputs : goal.explain-requires-clause-inputs
explain-requires-clause-inputs c =
    subst (λ (e : Encoded). All (Contains e.clauses) c.args.log.now.inputs) (sym c.in-Ok.ensures.exact) c.requires.inputs
