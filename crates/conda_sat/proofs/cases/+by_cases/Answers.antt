use Rattle.std.proofs.Common.{[], true, false, arith, ap, sym, ◌∙◌, Some}
use Rattle.std.proofs.lemmas.List.{append-nil}
use Rattle.conda_sat.specs.Answers.{opposites}
use Rattle.conda_sat.proofs.CasesLemmas.{decided-side, last_named, none_left_of}
use Rattle.conda_sat.proofs.cases.+by_cases.Goals as goal

pub by_cases-requires-2 : goal.by_cases-requires-2
by_cases-requires-2 t c =
    let decided = decided-side c.args.vars c.args.next c.args.decided.now true c.requires.first (omega arith) c.requires.decided (sym c.is_decided-else-is_decided.ensures ∙ c.if-is_decided-2.false) in
    (omega (arith, c.decreases), (c.requires.few, (omega arith, (omega arith, (c.requires.clauses, rw (c.as_slice.ensures.value, c.in_ok-left.ensures) decided)))))

pub by_cases-requires-3 : goal.by_cases-requires-3
by_cases-requires-3 t c =
    let decided = decided-side c.args.vars c.args.next c.args.decided.now false c.requires.first (omega arith) c.requires.decided (sym c.is_decided.ensures ∙ c.if-is_decided.false) in
    (omega (arith, c.decreases), (c.requires.few, (omega arith, (omega arith, (rw c.by_cases-2.ensures.inputs c.requires.clauses, rw (c.as_slice-2.ensures.value, c.in_ok-right.ensures) decided)))))

pub deny_both-requires-clause-hints : goal.deny_both-requires-clause-hints
deny_both-requires-clause-hints t c =
    let first = c.by_cases-2.new.ledger in
    let second = c.by_cases-3.new.ledger in
    let left_ends = none_left_of c.in_ok-found.found c.in_ok-found.ensures.none (sym c.is_some.ensures ∙ c.if-is_some.false) in
    let right_ends = none_left_of c.in_ok-found-2.found c.in_ok-found-2.ensures.none (sym c.is_some-2.ensures ∙ c.if-is_some-2.false) in
    let left_same = c.as_slice.ensures.value ∙ c.in_ok-left.ensures in
    let right_same = c.as_slice-2.ensures.value ∙ c.in_ok-right.ensures in
    let left_named = last_named second.inputs first.steps second.steps _ left_ends c.in_ok-found-2.ensures.more in
    let right_named = last_named second.inputs second.steps second.steps _ right_ends ([], sym (append-nil second.steps)) in (
      c.last_number-left.result,
      c.last_number-right.result,
      c.from_vec-hints.ensures ∙ c.in_ok-vec.ensures.items,
      rw (c.last_number-left.ensures, ← c.by_cases-3.ensures.inputs) (left_named ∙ ap (λ xs. Some (opposites xs)) left_same),
      rw c.last_number-right.ensures (right_named ∙ ap (λ xs. Some (opposites xs)) right_same),
    )
