-- Prefixes that are lent, and lanes that tell nothing.
use Rattle.std.proofs.Common.{◌≡◌, ◌≤◌, ℕ, List, [], ◌∷◌, length, map, Bool, true, false, ◌&&◌, ◌||◌, not, cond, Option, Some, None, is_some, refl, arith}
use Rattle.conda_device.specs.Tree.{together}

-- one more is noted
pub noted : (b : Bool) (lanes : ℕ) (before : Option ℕ) → is_some (cond b (Some lanes) before) ≡ (b || is_some before)
noted true lanes before = refl
noted false lanes before = refl

-- one is noted no longer
pub removed : (b : Bool) (before : Option ℕ) → is_some (cond b None before) ≡ (not b && is_some before)
removed true before = refl
removed false before = refl

-- lanes that tell nothing tell nothing together
pub together_none : {L : Type 0} (lanes : List L) → 1 ≤ length lanes → together (map (λ _. None) lanes) ≡ None
together_none [] some = absurd (omega (arith, some))
together_none (lane ∷ []) some = refl
together_none (lane ∷ next ∷ rest) some = refl
