use Rattle.std.proofs.Common.{ap, lit<, arith, rules, sym, ◌∙◌, string_bytes}
use Rattle.std.proofs.lemmas.Str.Pattern.{split_once_first}
use Rattle.conda_clause.specs.Kept.{last_of}
use Rattle.conda_clause.proofs.KeptLemmas.{parts_length, seen_last, seen_step}
use Rattle.conda_clause.proofs.kept.keep.Goals as goal

pub loop-run-preserved : goal.loop-run-preserved
loop-run-preserved c =
    let found = split_once_first 32 c.loop-run.left.now c.split_once.result c.split_once.ensures.cases (lit< tt) in
    let cut = rw c.in-Some.is at found in
    let next = c.last_of-last.ensures ∙ ap (last_of c.loop-run.last) c.as_bytes.ensures.value in (
      search rules,
      omega (arith, parts_length c.loop-run.left.now c.in-Some.run'.now c.in-Some.rest.now cut.0 cut.1 cut.2, c.loop-run.invariant.1),
      seen_step (λ m. m.1) (string_bytes c.loop-run.made)
          (string_bytes c.add_run.new.text) c.loop-run.last c.last_of-last.result c.loop-run.at
          c.loop-run.left.now c.in-Some.run'.now c.in-Some.rest.now cut.0 cut.1 cut.2 next c.in_ok-add_run.ensures.text
          ∙ c.loop-run.invariant.2,
      seen_step (λ m. m.0) c.loop-run.places.items c.add_run.new.places.items c.loop-run.last c.last_of-last.result c.loop-run.at
          c.loop-run.left.now c.in-Some.run'.now c.in-Some.rest.now cut.0 cut.1 cut.2 next c.in_ok-add_run.ensures.places
          ∙ c.loop-run.invariant.3,
    )

pub returns-clause-text : goal.returns-clause-text
returns-clause-text c =
    let found = split_once_first 32 c.loop-run.left.now c.split_once.result c.split_once.ensures.cases (lit< tt) in
    let none = rw c.in_default.is at found in
    c.from_string.ensures ∙ c.in_ok-add_run-2.ensures.text
    ∙ sym (seen_last (λ m. m.1) (string_bytes c.loop-run.made) c.loop-run.last c.loop-run.at c.loop-run.left.now none)
    ∙ c.loop-run.invariant.2

pub returns-clause-places : goal.returns-clause-places
returns-clause-places c =
    let found = split_once_first 32 c.loop-run.left.now c.split_once.result c.split_once.ensures.cases (lit< tt) in
    let none = rw c.in_default.is at found in
    c.in_ok-add_run-2.ensures.places
    ∙ sym (seen_last (λ m. m.0) c.loop-run.places.items c.loop-run.last c.loop-run.at c.loop-run.left.now none) ∙ c.loop-run.invariant.3
