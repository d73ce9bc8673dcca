-- Whether a text is among others.
use Rattle.std.specs.Prelude.{◌≡◌, ℕ, ◌<◌, zero, suc, Bool, true, false, ◌||◌, List, [], ◌∷◌, length, slice_index_or}
use Rattle.std.proofs.Common.{ap, sym, refl, arith}
use Rattle.std.proofs.lemmas.Bool.{false≢true}
use Rattle.std.proofs.lemmas.Slice.Eq.{bytes_eq-Decides}
use Rattle.std.specs.List.{Contains, list_any}
use Rattle.conda_base.specs.Texts.{is_text}

pub among : (text : List ℕ) (texts : List (List ℕ)) → list_any (is_text text) texts ≡ true → Contains texts text
among text [] h = absurd (false≢true h)
among text (x ∷ rest) h = by (is_text text x) refl h (among text rest)
  where
    by : (v : Bool) → is_text text x ≡ v → (v || list_any (is_text text) rest) ≡ true → (list_any (is_text text) rest ≡ true → Contains rest text)
        → Contains (x ∷ rest) text
    by true e g f = (0, omega arith, sym ((bytes_eq-Decides text x).0 e))
    by false e g f = let m = f g in (suc m.0, omega (arith, m.1), m.2)

pub any_of : (text : List ℕ) (texts : List (List ℕ)) (k : ℕ) → k < length texts → slice_index_or texts k text ≡ text
    → list_any (is_text text) texts ≡ true
any_of text [] k q is = absurd (omega (arith, q))
any_of text (x ∷ rest) zero q is = ap (λ v. v || list_any (is_text text) rest) ((bytes_eq-Decides text x).1 (sym is))
any_of text (x ∷ rest) (suc k) q is = by (is_text text x) (any_of text rest k (omega (arith, q)) is)
  where
    by : (v : Bool) → list_any (is_text text) rest ≡ true → (v || list_any (is_text text) rest) ≡ true
    by true h = refl
    by false h = h
