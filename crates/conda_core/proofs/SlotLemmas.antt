-- A step of one view on one slot keeps the slot rule.
use Rattle.std.proofs.Common.{◌≡◌, ◌≢◌, ℕ, zero, suc, ◌+◌, ◌≤◌, ◌⊎◌, inl, inr, false, List, [], ◌∷◌, sum_by, slice_get, slice_set, get_or, Some, refl, sym, ◌∙◌, ap, subst, arith}
use Rattle.std.proofs.lemmas.Bool.{cases_eq}
use Rattle.std.proofs.lemmas.Option.{slice_get_within, get_or_from_slice_get}
use Rattle.std.proofs.lemmas.List.{length-set}
use Rattle.std.proofs.lemmas.List.Sums.{sum_by-set, sum_by-le-sum_by, get_or-le-sum_by}
use Rattle.conda_core.specs.declared.word.Word.{Word}
use Rattle.conda_core.specs.declared.seat.View.{View}
use Rattle.conda_core.specs.SlotRule.{times, pinned, held, taken, listed, SlotFits, SlotRule}
use Rattle.conda_core.specs.Word.{is_busy_state, is_ready_state}
use Rattle.conda_core.proofs.ListLemmas.{one}

-- the sum over the views, where one of them is replaced
pub sum_replaced : (f : View → ℕ) (views : List View) (k : ℕ) (v nv : View) → slice_get views k ≡ Some v → sum_by f (slice_set views k nv) + f v ≡ sum_by f views + f nv
sum_replaced f views k v nv is =
    let at : get_or views k v ≡ v = get_or_from_slice_get views k v v is in
    let h : sum_by f (slice_set views k nv) + f (get_or views k v) ≡ sum_by f views + f nv = sum_by-set f views k nv v (slice_get_within views k v is) in
    sym (ap (λ x. sum_by f (slice_set views k nv) + f x) at) ∙ h

-- a view has no more than all views together
pub part_of_sum : (f : View → ℕ) (views : List View) (k : ℕ) (v : View) → slice_get views k ≡ Some v → f v ≤ sum_by f views
part_of_sum f views k v is =
    let P : View → Type 0 = λ x. f x ≤ sum_by f views in
    subst P (get_or_from_slice_get views k v v is) (get_or-le-sum_by f views k v (slice_get_within views k v is))

suc_case : {X : Type 0} (xs : List X) (j k : ℕ) (x y : X) → ((j ≡ k) × (x ≡ y)) ⊎ ((j ≢ k) × (slice_get xs j ≡ Some x)) → ((suc j ≡ suc k) × (x ≡ y)) ⊎ ((suc j ≢ suc k) × (slice_get xs j ≡ Some x))
suc_case xs j k x y (inl h) = inl (ap suc h.0, h.1)
suc_case xs j k x y (inr h) = inr (λ e. h.0 (cc), h.1)

-- an element of a list with one replaced: the new one at its place, or an old one elsewhere
pub replaced_at : {X : Type 0} (xs : List X) (k : ℕ) (y : X) (j : ℕ) (x : X) → slice_get (slice_set xs k y) j ≡ Some x → ((j ≡ k) × (x ≡ y)) ⊎ ((j ≢ k) × (slice_get xs j ≡ Some x))
replaced_at [] k y j x is = absurd (cc)
replaced_at (z ∷ xs) zero y zero x is = inl (refl, cc)
replaced_at (z ∷ xs) zero y (suc j) x is = inr (λ e. cc, is)
replaced_at (z ∷ xs) (suc k) y zero x is = inr (λ e. cc, is)
replaced_at (z ∷ xs) (suc k) y (suc j) x is = suc_case xs j k x y (replaced_at xs k y j x is)

-- a step on slot i, from word w to w' and from the lists v to nv of one view
pub record Moves (i : ℕ) (w w' : Word) (v nv : View) : Type 0 where
  pub pins : (j : ℕ) → j ≢ i → times j nv.pins ≡ times j v.pins
  pub tries : (j : ℕ) → j ≢ i → times j nv.tries ≡ times j v.tries
  pub busy : (j : ℕ) → j ≢ i → times j nv.busy ≡ times j v.busy
  pub once : listed i nv ≤ 1
  pub counted : w'.count + held i v ≡ w.count + held i nv
  pub one_busy : one (is_busy_state w'.state) + taken i v ≡ one (is_busy_state w.state) + taken i nv
  pub ready : is_ready_state w'.state ≡ false → (times i nv.pins ≡ 0) × ((is_ready_state w.state ≡ false) ⊎ (w.count ≡ 0))

nobody_pins : (i : ℕ) (w : Word) (views : List View) → SlotFits i w views → (is_ready_state w.state ≡ false) ⊎ (w.count ≡ 0) → sum_by (pinned i) views ≡ 0
nobody_pins i w views f (inl r) = f.ready r
nobody_pins i w views f (inr z) =
    let less : sum_by (pinned i) views ≤ sum_by (held i) views = sum_by-le-sum_by (pinned i) (held i) views (λ x. omega arith) in
    omega (arith, f.counted)

-- the slot of the step
pub fits_here : (i k : ℕ) (w w' : Word) (v nv : View) (views : List View) → slice_get views k ≡ Some v → Moves i w w' v nv → SlotFits i w views → SlotFits i w' (slice_set views k nv)
fits_here i k w w' v nv views is m f =
    record {
      counted =
          let s = sum_replaced (held i) views k v nv is in
          let c = m.counted in
          let d = f.counted in
          omega arith;
      one_busy =
          let s = sum_replaced (taken i) views k v nv is in
          let c = m.one_busy in
          let d = f.one_busy in
          omega arith;
      ready = λ r.
          let z = m.ready r in
          let zero_pins = z.0 in
          let none = nobody_pins i w views f z.1 in
          let s = sum_replaced (pinned i) views k v nv is in
          omega arith;
    }

-- another slot
pub fits_there : (i j k : ℕ) (w w' u : Word) (v nv : View) (views : List View) → slice_get views k ≡ Some v → Moves i w w' v nv → j ≢ i → SlotFits j u views → SlotFits j u (slice_set views k nv)
fits_there i j k w w' u v nv views is m ne f =
    let p = m.pins j ne in
    let t = m.tries j ne in
    let b = m.busy j ne in
    record {
      counted =
          let s = sum_replaced (held j) views k v nv is in
          let d = f.counted in
          omega arith;
      one_busy =
          let s = sum_replaced (taken j) views k v nv is in
          let d = f.one_busy in
          omega arith;
      ready = λ r.
          let s = sum_replaced (pinned j) views k v nv is in
          let d = f.ready r in
          omega arith;
    }

once_after : (i j : ℕ) (w w' : Word) (v nv : View) → Moves i w w' v nv → listed j v ≤ 1 → (j ≡ i) ⊎ (j ≡ i → ⊥) → listed j nv ≤ 1
once_after i j w w' v nv m h (inl e) = let P : ℕ → Type 0 = λ x. listed x nv ≤ 1 in subst P (sym e) m.once
once_after i j w w' v nv m h (inr ne) =
    let p = m.pins j ne in
    let t = m.tries j ne in
    let b = m.busy j ne in
    omega arith

slot_after : (i j k : ℕ) (w w' u : Word) (v nv : View) (words : List Word) (views : List View) → SlotRule words views → slice_get words i ≡ Some w → slice_get views k ≡ Some v → Moves i w w' v nv → ((j ≡ i) × (u ≡ w')) ⊎ ((j ≢ i) × (slice_get words j ≡ Some u)) → SlotFits j u (slice_set views k nv)
slot_after i j k w w' u v nv words views r at is m (inl h) =
    let P : ℕ → Type 0 = λ x. SlotFits x u (slice_set views k nv) in
    let Q : Word → Type 0 = λ x. SlotFits i x (slice_set views k nv) in
    subst P (sym h.0) (subst Q (sym h.1) (fits_here i k w w' v nv views is m (r.slots i w at)))
slot_after i j k w w' u v nv words views r at is m (inr h) = fits_there i j k w w' u v nv views is m h.0 (r.slots j u h.1)

view_after : (i j k l : ℕ) (w w' : Word) (v nv u : View) (words : List Word) (views : List View) → SlotRule words views → slice_get views k ≡ Some v → Moves i w w' v nv → ((l ≡ k) × (u ≡ nv)) ⊎ ((l ≢ k) × (slice_get views l ≡ Some u)) → listed j u ≤ 1
view_after i j k l w w' v nv u words views r is m (inl h) =
    let P : View → Type 0 = λ x. listed j x ≤ 1 in
    subst P (sym h.1) (once_after i j w w' v nv m (r.once k v is j) (cases_eq j i))
view_after i j k l w w' v nv u words views r is m (inr h) = r.once l u h.1 j

-- a step of one view on one slot keeps the slot rule
pub moves : (i k : ℕ) (w w' : Word) (v nv : View) (words : List Word) (views : List View) → SlotRule words views → slice_get words i ≡ Some w → slice_get views k ≡ Some v → Moves i w w' v nv → SlotRule (slice_set words i w') (slice_set views k nv)
moves i k w w' v nv words views r at is m =
    record {
      slots = λ j u h. slot_after i j k w w' u v nv words views r at is m (replaced_at words i w' j u h);
      once = λ l u h j. view_after i j k l w w' v nv u words views r is m (replaced_at views k nv l u h);
      known = λ j long.
          let within = slice_get_within words i w at in
          let same = length-set words i w' in
          let ne : j ≢ i = omega arith in
          let p = m.pins j ne in
          let t = m.tries j ne in
          let b = m.busy j ne in
          let s = sum_replaced (listed j) views k v nv is in
          let none = r.known j (omega arith) in
          omega arith;
    }
