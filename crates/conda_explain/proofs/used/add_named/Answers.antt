use Rattle.std.proofs.Common.{◌≡◌, ◌<◌, ℕ, ℤ, List, None, Some, Vec, Global, ap, get_or, length, sym, ◌∙◌}
use Rattle.std.specs.Prelude.{option_copied}
use Rattle.std.proofs.lemmas.List.{get_or_default}
use Rattle.indexmap.specs.IndexSet.{insert_key}
use Rattle.conda_refute.specs.Refutation.{named}
use Rattle.conda_explain.specs.Shown.{holds}
use Rattle.conda_explain.proofs.Keys.{held_more, held_put, held_same, lists, same_key}
use Rattle.conda_explain.proofs.used.add_named.Goals as goal
use Rattle.conda_explain.proofs.used.add_named.Goals.{in-Some+in_ok-literals_of+in_ok-insert, in_default}

pub loop-hint-preserved : goal.loop-hint-preserved
loop-hint-preserved c = λ clause.
    let inputs : List (List ℤ) = c.args.inputs.now in
    let hs : List ℕ = c.args.hints.now in
    let i : ℕ = c.loop-hint.hint-index in
    let h : ℕ = get_or hs i 0 in
    let lt : i < length hs = c.loop-hint-test.true in
    let at : get_or hs i h ≡ h = get_or_default hs i h 0 lt in
    let before : List (Vec ℤ Global) = c.loop-hint.set.keys in
    elim c.match-input_named.branch [
      | in-Some+in_ok-literals_of+in_ok-insert w ↦
          let literals : Vec ℤ Global = w.in_ok-literals_of.field-0 in
          let found : named inputs h ≡ Some w.in-Some.clause.now = sym c.input_named.ensures ∙ ap option_copied w.in-Some.is in
          let same : literals.items ≡ w.in-Some.clause.now = w.in_ok-literals_of.ensures in
          let keys : w.insert.new.self.keys ≡ insert_key same_key before literals = w.in_ok-insert.ensures.keys in
          let set : c.match-input_named.set.keys ≡ insert_key same_key before literals = ap (λ s. s.keys) w.set-is ∙ keys in
          held_more inputs hs i h (lists c.args.set.now.keys) (lists before) (lists c.match-input_named.set.keys) clause lt at (c.loop-hint.invariant clause)
          (ap (λ (ks : List (Vec ℤ Global)). holds (lists ks) clause) set ∙ held_put inputs h before literals w.in-Some.clause.now clause found same)
      | in_default w ↦
          let none : named inputs h ≡ None = sym c.input_named.ensures ∙ ap option_copied w.in_default.is in
          let set : c.match-input_named.set.keys ≡ before = ap (λ s. s.keys) w.set-is in
          held_more inputs hs i h (lists c.args.set.now.keys) (lists before) (lists c.match-input_named.set.keys) clause lt at (c.loop-hint.invariant clause)
          (ap (λ (ks : List (Vec ℤ Global)). holds (lists ks) clause) set ∙ held_same inputs h (lists before) clause none)
    ]
