use Rattle.std.proofs.Common.{ℤ, List, All, Contains, subst}
use Rattle.rows_requests.proofs.report.report_of.Goals as goal

pub report-requires-clause-inputs : goal.report-requires-clause-inputs
report-requires-clause-inputs c =
    subst (λ (cs : List (List ℤ)). All (Contains cs) c.in-Ok.log.inputs) c.as_slice.ensures
    (subst (λ (inputs : List (List ℤ)). All (Contains c.as_slice.result.now) inputs) c.as_slice-2.ensures
    (c.are_among.ensures c.if-not-are_among.false))
