-- The slot rule, said of whether a view has a slot, follows from the sums.
use Rattle.std.proofs.Common.{◌≡◌, ℕ, zero, suc, ◌+◌, ◌≤◌, ◌<◌, ◌⊎◌, inl, inr, Bool, true, false, ◌||◌, List, [], ◌∷◌, length, sum_by, count_by, slice_get, get_or, Some, None, refl, sym, ◌∙◌, ap, subst, arith}
use Rattle.std.proofs.lemmas.Bool.{cases_Bool}
use Rattle.std.proofs.lemmas.Option.{slice_get_cases}
use Rattle.std.proofs.lemmas.List.Sums.{sum_by-cons, sum_by-le-sum_by}
use Rattle.conda_core.specs.declared.word.SlotState.{SlotState}
use Rattle.conda_core.specs.declared.word.SlotState.TheVariants.{Empty, Busy, Ready}
use Rattle.conda_core.specs.declared.word.Word.{Word}
use Rattle.conda_core.specs.declared.seat.View.{View}
use Rattle.conda_core.specs.SlotRule.{has, times, pinned, held, taken, listed, SlotRule, SlotRuleByView}
use Rattle.conda_core.specs.Word.{is_busy_state, is_ready_state}
use Rattle.conda_core.proofs.ListLemmas.{one, times-has, times-hasnt}
use Rattle.conda_core.proofs.SlotLemmas.{part_of_sum}
use Rattle.conda_core.proofs.RuleLemmas.{looked_up}

sum_same : (f g : View → ℕ) (views : List View) → ((k : ℕ) (v : View) → slice_get views k ≡ Some v → f v ≡ g v) → sum_by f views ≡ sum_by g views
sum_same f g [] h = refl
sum_same f g (v ∷ vs) h =
    let rest = sum_same f g vs (λ k u is. h (suc k) u is) in
    let first = h zero v refl in
    omega (arith, sum_by-cons f v vs, sum_by-cons g v vs)

hasnt-times : (i : ℕ) (xs : List ℕ) → times i xs ≡ 0 → (has i xs ≡ true) ⊎ (has i xs ≡ false) → has i xs ≡ false
hasnt-times i xs z (inl h) = absurd (omega (arith, times-has i xs h))
hasnt-times i xs z (inr h) = h

one_of : (b : Bool) (n : ℕ) → (b ≡ true → 1 ≤ n) → (b ≡ false → n ≡ 0) → n ≤ 1 → n ≡ one b
one_of true n f g le = omega (arith, f refl)
one_of false n f g le = g refl

one_of_two : (a b : Bool) (m n : ℕ) → (a ≡ true → 1 ≤ m) → (a ≡ false → m ≡ 0) → (b ≡ true → 1 ≤ n) → (b ≡ false → n ≡ 0) → m + n ≤ 1 → m + n ≡ one (a || b)
one_of_two true b m n f g h k le = omega (arith, f refl)
one_of_two false true m n f g h k le = omega (arith, g refl, h refl)
one_of_two false false m n f g h k le = omega (arith, g refl, k refl)

held_is : (i : ℕ) (v : View) → listed i v ≤ 1 → held i v ≡ one (has i v.pins || has i v.tries)
held_is i v once =
    one_of_two (has i v.pins) (has i v.tries) (times i v.pins) (times i v.tries) (times-has i v.pins) (times-hasnt i v.pins) (times-has i v.tries) (times-hasnt i v.tries) (omega arith)

taken_is : (i : ℕ) (v : View) → listed i v ≤ 1 → taken i v ≡ one (has i v.busy)
taken_is i v once = one_of (has i v.busy) (times i v.busy) (times-has i v.busy) (times-hasnt i v.busy) (omega arith)

apart : (i : ℕ) (xs ys : List ℕ) → times i xs + times i ys ≤ 1 → has i xs ≡ true → has i ys ≡ false
apart i xs ys le h = hasnt-times i ys (omega (arith, times-has i xs h)) (cases_Bool (has i ys))

busy_is : (s : SlotState) (n : ℕ) → n ≡ one (is_busy_state s) → n ≡ 1 → s ≡ Busy
busy_is Empty n e h = absurd (omega arith)
busy_is Busy n e h = refl
busy_is Ready n e h = absurd (omega arith)

one-le : (b : Bool) → one b ≤ 1
one-le true = omega arith
one-le false = omega arith

most_one : (words : List Word) (views : List View) (i : ℕ) → SlotRule words views → ((x : Word) × (i < length words) × (slice_get words i ≡ Some x) × (get_or words i x ≡ x)) ⊎ ((length words ≤ i) × (slice_get words i ≡ None)) → sum_by (taken i) views ≤ 1
most_one words views i r (inl h) = omega (arith, (r.slots i h.0 h.2).one_busy, one-le (is_busy_state h.0.state))
most_one words views i r (inr h) =
    let less : sum_by (taken i) views ≤ sum_by (listed i) views = sum_by-le-sum_by (taken i) (listed i) views (λ x. omega arith) in
    omega (arith, r.known i h.0)

no_pin : (words : List Word) (views : List View) (i k : ℕ) (w : Word) (v : View) → SlotRule words views → slice_get words i ≡ Some w → w.state ≡ Busy → slice_get views k ≡ Some v → times i v.pins ≡ 0
no_pin words views i k w v r at busy is =
    let none = (r.slots i w at).ready (ap is_ready_state busy) in
    let part = part_of_sum (pinned i) views k v is in
    omega arith

pub by_view : (words : List Word) (views : List View) → SlotRule words views → SlotRuleByView words views
by_view words views r =
    let taken_by : (i : ℕ) → sum_by (taken i) views ≡ count_by (λ v. has i v.busy) views = λ i. sum_same (taken i) (λ v. one (has i v.busy)) views (λ k v is. taken_is i v (r.once k v is i)) in
    record {
      count = λ i w at. (r.slots i w at).counted ∙ sum_same (held i) (λ v. one (has i v.pins || has i v.tries)) views (λ k v is. held_is i v (r.once k v is i));
      busy = λ i w at. (
        λ e. sym (taken_by i) ∙ (r.slots i w at).one_busy ∙ ap (λ s. one (is_busy_state s)) e,
        λ e. busy_is w.state (sum_by (taken i) views) (r.slots i w at).one_busy (taken_by i ∙ e),
      );
      one_busy = λ i. let P : ℕ → Type 0 = λ n. n ≤ 1 in subst P (taken_by i) (most_one words views i r ((slice_get_cases words i).1));
      ready = λ i k v is h. looked_up words views i k v r is (times-has i v.pins h) ((slice_get_cases words i).1);
      busy_unpinned = λ i k w v at busy is. hasnt-times i v.pins (no_pin words views i k w v r at busy is) (cases_Bool (has i v.pins));
      apart = λ k v is i.
          let once = r.once k v is i in
          (apart i v.pins v.tries (omega arith), apart i v.pins v.busy (omega arith), apart i v.tries v.busy (omega arith));
      once = λ k v is i. let once = r.once k v is i in (omega arith, omega arith, omega arith);
    }
