use Rattle.std.proofs.Common.{◌≡◌, ◌∙◌, All, Contains, List, inl, refl, true}
use Rattle.conda_record.specs.declared.pkg_record.PkgRecord.{PkgRecord}
use Rattle.conda_refute.specs.Refutation.{refuted}
use Rattle.conda_encode.specs.Clauses.{clauses}
use Rattle.conda_encode.specs.Solution.{IsSolution}
use Rattle.conda_requests.proofs.SolveLemmas.{of_log, request, unsat}
use Rattle.conda_requests.proofs.solving.solve_report.Goals as goal

pub resolve-requires : goal.resolve-requires
resolve-requires c =
    request c.args.specs c.as_slice-asked.result.now c.as_slice-pools.result.now c.in-Ok.pools.items (c.as_slice-asked.ensures.value ∙ c.in_ok-items.ensures)
    c.requires.plain c.as_slice-pools.ensures.value c.in-Ok.ensures.request

pub unsat_report-requires-clause-request : goal.unsat_report-requires-clause-request
unsat_report-requires-clause-request c =
    request c.args.specs c.as_slice-asked.result.now c.as_slice-pools.result.now c.in-Ok.pools.items (c.as_slice-asked.ensures.value ∙ c.in_ok-items.ensures)
    c.requires.plain c.as_slice-pools.ensures.value c.in-Ok.ensures.request

pub unsat_report-requires-clause-inputs : goal.unsat_report-requires-clause-inputs
unsat_report-requires-clause-inputs c =
    of_log c.in-Err-Unsat.field-0 c.in-Err-Unsat.log (λ log. All (Contains (clauses c.as_slice-pools.result.now c.as_slice-asked.result.now)) log.inputs)
    c.in-Err-Unsat.field-0-is c.in-Err-Unsat.ensures.inputs

pub returns-in-Err-Unsat : goal.returns-in-Err-Unsat
returns-in-Err-Unsat c =
    let pools = c.as_slice-pools.result.now in
    let items = c.as_slice-asked.result.now in
    let error = c.in-Err-Unsat.field-0 in
    let log = c.in-Err-Unsat.log in
    let is = c.in-Err-Unsat.field-0-is in
    inl (
      c.from_string.result,
      unsat c.args.specs c.args.index.now items pools c.in-Ok.pools.items log c.from_string.result
          (c.as_slice-asked.ensures.value ∙ c.in_ok-items.ensures) c.as_slice-pools.ensures.value c.in-Ok.ensures.names c.in-Ok.ensures.ascending c.in-Ok.ensures.records
          (of_log error log (λ _. (set : List PkgRecord) → IsSolution set items pools → ⊥) is c.in-Err-Unsat.ensures.none)
          (of_log error log (λ log. refuted log ≡ true) is c.in-Err-Unsat.ensures.refuted)
          (of_log error log (λ log. All (Contains (clauses pools items)) log.inputs) is c.in-Err-Unsat.ensures.inputs)
          (c.from_string.ensures ∙ c.in_ok-report-in-Err-Unsat.ensures),
      refl,
    )
