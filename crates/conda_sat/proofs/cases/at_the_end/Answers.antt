use Rattle.std.proofs.Common.{ap, slice_get, sym, ◌∙◌}
use Rattle.std.specs.List.{list_all}
use Rattle.conda_refute.specs.Literals.{clause_true}
use Rattle.conda_sat.specs.Answers.{side_of}
use Rattle.conda_sat.proofs.CasesLemmas.{clause_denied, decided_satisfied, end_follows, ended_with}
use Rattle.conda_sat.proofs.cases.at_the_end.Goals as goal

pub put-requires : goal.put-requires
put-requires c =
    let ledger = c.args.ledger.now in
    let decided = c.args.decided.now in
    let found = c.in-Some.ensures.some in
    let same = c.as_slice-2.ensures ∙ ap (λ l. l.inputs) c.log.ensures.same in
    let here = ap (λ xs. slice_get xs c.in-Some.at) (sym same) ∙ found.1 in
    let false_here = ap (λ ss. clause_true (side_of ss) found.0) (sym c.as_slice.ensures.value) ∙ found.2 in
    rw (c.in_ok-clause-in-Some.ensures, c.from_vec-hints.ensures, c.in_ok-vec-in-Some.ensures.items)
    (end_follows ledger.inputs ledger.steps decided found.0 c.in-Some.at c.requires.decided.apart here
    (clause_denied c.args.vars decided c.in_ok-sides.sides.items ledger.inputs c.in-Some.at found.0 c.requires.decided c.in_ok-sides.ensures c.requires.clauses here false_here))

pub returns-in-None-clause-model : goal.returns-in-None-clause-model
returns-in-None-clause-model c =
    let sides = c.in_ok-sides.sides.items in
    let same = c.as_slice-2.ensures ∙ ap (λ l. l.inputs) c.log.ensures.same in
    let clauses_true =
    ap (λ ss. list_all (clause_true (side_of ss)) c.args.ledger.now.inputs) (sym c.as_slice.ensures.value)
    ∙ ap (λ xs. list_all (clause_true (side_of c.as_slice.result.now)) xs) (sym same) ∙ c.in-None.ensures.none in
    (c.in_ok-sides.ensures.all, (clauses_true, decided_satisfied c.args.vars c.args.decided.now sides c.requires.decided c.in_ok-sides.ensures))

pub returns-in_ok-put-in-Some-clause-none : goal.returns-in_ok-put-in-Some-clause-none
returns-in_ok-put-in-Some-clause-none c =
    ended_with c.args.ledger.now.steps c.put.new.self.steps (record { clause = c.in_ok-clause-in-Some.clause; hints = c.from_vec-hints.result }) _
    c.in_ok-put-in-Some.ensures.ok c.in_ok-clause-in-Some.ensures
