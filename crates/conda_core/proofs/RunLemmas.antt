-- A run goes on by one event.
use Rattle.std.proofs.Common.{◌≡◌, ℕ, suc, ◌+◌, ◌<◌, Bool, true, false, cond, List, [], ◌∷◌, ◌++◌, length, take, drop, get_or, refl, sym, ◌∙◌, ap, arith}
use Rattle.std.proofs.lemmas.List.{take_more, drop_more, length-take-le}
use Rattle.conda_core.specs.declared.event.Event.{Event}
use Rattle.conda_core.specs.declared.machine.Core.{Core}
use Rattle.conda_core.specs.Machine.{enabled, effect, applied, after}

first_on : (b : Bool) (m n : ℕ) → cond b (m + 1) 0 ≡ suc n → (b ≡ true) × (m ≡ n)
first_on true m n h = (refl, omega (arith, h))
first_on false m n h = absurd (omega (arith, h))

-- a list of events that were all applied, and one more that is enabled
pub one_more : (xs : List Event) (e : Event) (c : Core) → applied xs c ≡ length xs → enabled (after xs c) e ≡ true → (applied (xs ++ e ∷ []) c ≡ length xs + 1) × (after (xs ++ e ∷ []) c ≡ effect (after xs c) e)
one_more [] e c full on = (ap (λ b. cond b 1 0) on, ap (λ b. cond b (effect c e) c) on)
one_more (x ∷ xs) e c full on =
    let p = first_on (enabled c x) (applied xs (effect c x)) (length xs) full in
    let a : after (x ∷ xs) c ≡ after xs (effect c x) = ap (λ b. cond b (after xs (effect c x)) c) p.0 in
    let ih = one_more xs e (effect c x) p.1 (ap (λ y. enabled y e) (sym a) ∙ on) in (
      ap (λ b. cond b (applied (xs ++ e ∷ []) (effect c x) + 1) 0) p.0 ∙ omega (arith, ih.0),
      ap (λ b. cond b (after (xs ++ e ∷ []) (effect c x)) c) p.0 ∙ ih.1 ∙ ap (λ y. effect y e) (sym a),
    )

-- the events so far were applied, and the answer for what is left is the answer for all
pub record Run (events : List Event) (i : ℕ) (start at : Core) : Type 0 where
  pub so_far : applied (take i events) start ≡ i
  pub now : after (take i events) start ≡ at
  pub told : i + applied (drop i events) at ≡ applied events start
  pub left : after (drop i events) at ≡ after events start

pub goes_on : (events : List Event) (i : ℕ) (start now next : Core) (e : Event) → i < length events → e ≡ get_or events i e → Run events i start now → enabled now e ≡ true → next ≡ effect now e → Run events (i + 1) start next
goes_on events i start now next e within is r on step =
    let long : length (take i events) ≡ i = length-take-le i events (omega arith) in
    let front : take (i + 1) events ≡ take i events ++ e ∷ [] = take_more events i e within ∙ ap (λ x. take i events ++ x ∷ []) (sym is) in
    let back : drop i events ≡ e ∷ drop (i + 1) events = drop_more events i e within ∙ ap (λ x. x ∷ drop (i + 1) events) (sym is) in
    let more = one_more (take i events) e start (r.so_far ∙ sym long) (ap (λ c. enabled c e) r.now ∙ on) in
    record {
      so_far = ap (λ xs. applied xs start) front ∙ more.0 ∙ ap (λ n. n + 1) long;
      now = ap (λ xs. after xs start) front ∙ more.1 ∙ ap (λ c. effect c e) r.now ∙ sym step;
      told =
          let h = r.told in
          let a : applied (drop i events) now ≡ applied (drop (i + 1) events) next + 1 =
          ap (λ xs. applied xs now) back ∙ ap (λ b. cond b (applied (drop (i + 1) events) (effect now e) + 1) 0) on ∙ ap (λ c. applied (drop (i + 1) events) c + 1) (sym step) in
          omega arith;
      left =
          let a : after (drop i events) now ≡ after (drop (i + 1) events) next =
          ap (λ xs. after xs now) back ∙ ap (λ b. cond b (after (drop (i + 1) events) (effect now e)) now) on ∙ ap (after (drop (i + 1) events)) (sym step) in
          sym a ∙ r.left;
    }
