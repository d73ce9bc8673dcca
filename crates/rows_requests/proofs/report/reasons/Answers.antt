use Rattle.std.proofs.Common.{◌≡◌, ◌∙◌, ℤ, List, All, Contains, ap, subst, sym}
use Rattle.std.specs.Prelude.{IfSome}
use Rattle.conda_encode.specs.Clauses.{clauses}
use Rattle.conda_encode.specs.declared.encoded.Encoded.{Encoded}
use Rattle.conda_resolve.specs.Answer.{log_of}
use Rattle.conda_resolve.specs.declared.error.ResolveErr.{ResolveErr}
use Rattle.rows_requests.proofs.report.reasons.Goals as goal

pub report-requires-clause-inputs : goal.report-requires-clause-inputs
report-requires-clause-inputs c =
    let same : clauses c.as_slice.result.now c.as_slice-2.result.now ≡ c.args.encoded.now.clauses =
    (λ i. clauses (c.as_slice.ensures i) (c.as_slice-2.ensures i)) ∙ sym (ap (λ (e : Encoded). e.clauses) c.requires.encoded)
    in
    let of_log : All (Contains (clauses c.as_slice.result.now c.as_slice-2.result.now)) c.in-Err-Unsat.log.inputs =
    subst (λ (e : ResolveErr). IfSome (log_of e) (λ log. All (Contains (clauses c.as_slice.result.now c.as_slice-2.result.now)) log.inputs))
    c.in-Err-Unsat.field-0-is c.in-Err-Unsat.ensures.inputs
    in
    subst (λ (cs : List (List ℤ)). All (Contains cs) c.in-Err-Unsat.log.inputs) same of_log
