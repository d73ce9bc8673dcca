-- Each of the eight steps moves as the slot rule wants.
use Rattle.std.proofs.Common.{◌≡◌, ℕ, ◌+◌, ◌-◌, ◌≤◌, ◌<◌, inl, inr, Bool, true, false, cond, not, ◌&&◌, ◌==◌, nat_lt, Option, Some, None, refl, ap, subst, arith}
use Rattle.std.proofs.lemmas.Bool.{and_parts, not-true}
use Rattle.std.proofs.lemmas.Bool.Decides.{nat_tests}
use Rattle.std.proofs.lemmas.Option.{cond_some}
use Rattle.conda_core.specs.declared.word.SlotState.{SlotState}
use Rattle.conda_core.specs.declared.word.SlotState.TheVariants.{Empty, Busy, Ready}
use Rattle.conda_core.specs.declared.word.SlotOp.{SlotOp}
use Rattle.conda_core.specs.declared.word.SlotOp.TheVariants.{Load, Try, Back, Unpin, Claim, Publish, Abandon, Take}
use Rattle.conda_core.specs.declared.word.Word.{Word}
use Rattle.conda_core.specs.declared.seat.View.{View}
use Rattle.conda_core.specs.SlotRule.{has, times, listed}
use Rattle.conda_core.specs.Word.{is_empty_state, is_busy_state, is_ready_state, is_free_in, next_word}
use Rattle.conda_core.specs.Seat.{is_unlisted, meets_need, pin_in, try_in, busy_in, next_view}
use Rattle.conda_core.proofs.ListLemmas.{one, times_in, times_in_other, times_out, times_out_other, times-has, times-hasnt}
use Rattle.conda_core.proofs.SlotLemmas.{Moves}

pub if_some : {A : Type 0} (b : Bool) (o : Option A) (y : A) → cond b o None ≡ Some y → (b ≡ true) × (o ≡ Some y)
if_some true o y h = (refl, h)
if_some false o y h = absurd (cc)

pub unlisted : (i : ℕ) (v : View) → is_unlisted i v ≡ true → (times i v.pins ≡ 0) × (times i v.tries ≡ 0) × (times i v.busy ≡ 0)
unlisted i v h =
    let a = and_parts (not (has i v.pins) && not (has i v.tries)) (not (has i v.busy)) h in
    let b = and_parts (not (has i v.pins)) (not (has i v.tries)) a.0 in
    (times-hasnt i v.pins (not-true _ b.0), times-hasnt i v.tries (not-true _ b.1), times-hasnt i v.busy (not-true _ a.1))

ready_not_busy : (s : SlotState) → is_ready_state s ≡ true → is_busy_state s ≡ false
ready_not_busy Empty h = refl
ready_not_busy Busy h = absurd (cc)
ready_not_busy Ready h = refl

empty_not_busy : (s : SlotState) → is_empty_state s ≡ true → is_busy_state s ≡ false
empty_not_busy Empty h = refl
empty_not_busy Busy h = absurd (cc)
empty_not_busy Ready h = refl

busy_not_ready : (s : SlotState) → is_busy_state s ≡ true → is_ready_state s ≡ false
busy_not_ready Empty h = absurd (cc)
busy_not_ready Busy h = refl
busy_not_ready Ready h = absurd (cc)

-- nothing changes
stays : (i : ℕ) (w : Word) (v : View) → listed i v ≤ 1 → (is_ready_state w.state ≡ false → times i v.pins ≡ 0) → Moves i w w v v
stays i w v once free =
    record {
      pins = λ j ne. refl;
      tries = λ j ne. refl;
      busy = λ j ne. refl;
      once = once;
      counted = refl;
      one_busy = refl;
      ready = λ r. (free r, inl r);
    }

try_moves : (i : ℕ) (w : Word) (v : View) (r : Bool) → is_ready_state w.state ≡ r → is_unlisted i v ≡ true → Moves i w (record { state = w.state; count = w.count + 1 }) v (cond r (pin_in v i) (try_in v i))
try_moves i w v true is need =
    let z = unlisted i v need in
    let a = times_in i v.pins in
    record {
      pins = λ j ne. times_in_other i j v.pins ne;
      tries = λ j ne. refl;
      busy = λ j ne. refl;
      once = omega arith;
      counted = omega arith;
      one_busy = refl;
      ready = λ r. absurd (cc);
    }
try_moves i w v false is need =
    let z = unlisted i v need in
    let a = times_in i v.tries in
    record {
      pins = λ j ne. refl;
      tries = λ j ne. times_in_other i j v.tries ne;
      busy = λ j ne. refl;
      once = omega arith;
      counted = omega arith;
      one_busy = refl;
      ready = λ r. (z.0, inl r);
    }

-- a claim or a take
take_moves : (i : ℕ) (w : Word) (v : View) (b : Bool) → (b ≡ true → (w.count ≡ 0) × (is_busy_state w.state ≡ false)) → is_unlisted i v ≡ true → (is_ready_state w.state ≡ false → times i v.pins ≡ 0) → Moves i w (cond b (record { state = Busy; count = 0 }) w) v (cond b (busy_in v i) v)
take_moves i w v true is need free =
    let z = unlisted i v need in
    let a = times_in i v.busy in
    let f = is refl in
    record {
      pins = λ j ne. refl;
      tries = λ j ne. refl;
      busy = λ j ne. times_in_other i j v.busy ne;
      once = omega arith;
      counted = omega arith;
      one_busy = let e : one (is_busy_state w.state) ≡ 0 = ap one f.1 in omega arith;
      ready = λ r. (z.0, inr f.0);
    }
take_moves i w v false is need free = let z = unlisted i v need in stays i w v (omega arith) free

back_moves : (i : ℕ) (w : Word) (v : View) → nat_lt 0 w.count ≡ true → has i v.tries ≡ true → listed i v ≤ 1 → Moves i w (record { state = w.state; count = w.count - 1 }) v (next_view w Back i v)
back_moves i w v pos need once =
    let n = times-has i v.tries need in
    let a = times_out i v.tries in
    let some : 0 < w.count = grind (arith, nat_tests) in
    record {
      pins = λ j ne. refl;
      tries = λ j ne. times_out_other i j v.tries ne;
      busy = λ j ne. refl;
      once = omega arith;
      counted = omega arith;
      one_busy = refl;
      ready = λ r. (omega arith, inl r);
    }

unpin_moves : (i : ℕ) (w : Word) (v : View) → is_ready_state w.state ≡ true → nat_lt 0 w.count ≡ true → has i v.pins ≡ true → listed i v ≤ 1 → Moves i w (record { state = w.state; count = w.count - 1 }) v (next_view w Unpin i v)
unpin_moves i w v is pos need once =
    let n = times-has i v.pins need in
    let a = times_out i v.pins in
    let some : 0 < w.count = grind (arith, nat_tests) in
    record {
      pins = λ j ne. times_out_other i j v.pins ne;
      tries = λ j ne. refl;
      busy = λ j ne. refl;
      once = omega arith;
      counted = omega arith;
      one_busy = refl;
      ready = λ r. absurd (cc);
    }

publish_moves : (i : ℕ) (w : Word) (v : View) → is_busy_state w.state ≡ true → has i v.busy ≡ true → listed i v ≤ 1 → Moves i w (record { state = Ready; count = w.count + 1 }) v (next_view w Publish i v)
publish_moves i w v is need once =
    let n = times-has i v.busy need in
    let a = times_out i v.busy in
    let b = times_in i v.pins in
    let e : one (is_busy_state w.state) ≡ 1 = ap one is in
    record {
      pins = λ j ne. times_in_other i j v.pins ne;
      tries = λ j ne. refl;
      busy = λ j ne. times_out_other i j v.busy ne;
      once = omega arith;
      counted = omega arith;
      one_busy = omega arith;
      ready = λ r. absurd (cc);
    }

abandon_moves : (i : ℕ) (w : Word) (v : View) → is_busy_state w.state ≡ true → has i v.busy ≡ true → listed i v ≤ 1 → Moves i w (record { state = Empty; count = w.count }) v (next_view w Abandon i v)
abandon_moves i w v is need once =
    let n = times-has i v.busy need in
    let a = times_out i v.busy in
    let e : one (is_busy_state w.state) ≡ 1 = ap one is in
    record {
      pins = λ j ne. refl;
      tries = λ j ne. refl;
      busy = λ j ne. times_out_other i j v.busy ne;
      once = omega arith;
      counted = omega arith;
      one_busy = omega arith;
      ready = λ r. (omega arith, inl (busy_not_ready w.state is));
    }

moves_to : (i : ℕ) (w x w' : Word) (v nv : View) → x ≡ w' → Moves i w x v nv → Moves i w w' v nv
moves_to i w x w' v nv e m = let P : Word → Type 0 = λ y. Moves i w y v nv in subst P e m

free_at : (b c : Bool) (n : ℕ) → (b && (n == 0)) ≡ true → (b ≡ true → c ≡ false) → (n ≡ 0) × (c ≡ false)
free_at b c n h f =
    let p = and_parts b (n == 0) h in
    (grind (arith, nat_tests), f p.0)

-- what the table says of a step is a move
pub step_moves : (op : SlotOp) (i : ℕ) (w w' : Word) (v : View) → listed i v ≤ 1 → (is_ready_state w.state ≡ false → times i v.pins ≡ 0) → meets_need op i v ≡ true → next_word w op ≡ Some w' → Moves i w w' v (next_view w op i v)
step_moves Load i w w' v once free need is = moves_to i w w w' v v (cc) (stays i w v once free)
step_moves Try i w w' v once free need is =
    let e = cond_some _ _ _ is in
    moves_to i w _ w' v _ e.1 (try_moves i w v (is_ready_state w.state) refl need)
step_moves Back i w w' v once free need is =
    let e = cond_some _ _ _ is in
    moves_to i w _ w' v _ e.1 (back_moves i w v e.0 need once)
step_moves Unpin i w w' v once free need is =
    let r = if_some _ _ _ is in
    let e = cond_some _ _ _ r.1 in
    moves_to i w _ w' v _ e.1 (unpin_moves i w v r.0 e.0 need once)
step_moves Claim i w w' v once free need is =
    moves_to i w _ w' v _ (cc) (take_moves i w v (is_free_in Empty w) (λ h. free_at _ _ _ h (empty_not_busy w.state)) need free)
step_moves Publish i w w' v once free need is =
    let r = if_some _ _ _ is in
    let e = cond_some _ _ _ r.1 in
    moves_to i w _ w' v _ e.1 (publish_moves i w v r.0 need once)
step_moves Abandon i w w' v once free need is =
    let e = cond_some _ _ _ is in
    moves_to i w _ w' v _ e.1 (abandon_moves i w v e.0 need once)
step_moves Take i w w' v once free need is =
    moves_to i w _ w' v _ (cc) (take_moves i w v (is_free_in Ready w) (λ h. free_at _ _ _ h (ready_not_busy w.state)) need free)
