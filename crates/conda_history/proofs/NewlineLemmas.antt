-- The first line of a text.
use Rattle.std.proofs.Common.{◌≡◌, ℕ, ◌<◌, Bool, true, false, eqb, List, [], ◌∷◌, ◌++◌, suc, length, take, drop, get_or, refl, sym, ap, ◌∙◌, arith, drop-cons}
use Rattle.std.specs.Prelude.{Some, None}
use Rattle.std.specs.List.{All}
use Rattle.std.proofs.lemmas.Bool.{eqb-true}
use Rattle.std.proofs.lemmas.List.{get_or-take, length-take, take-append-drop}
use Rattle.std.proofs.lemmas.List.Elements.{All-from_get_or}
use Rattle.std.proofs.lemmas.List.Splits.{slice_split_at, slice_split_none}
use Rattle.memchr.specs.Find.{IsFirstByte, is_byte as found}
use Rattle.conda_base.specs.Texts.{is_byte}
use Rattle.conda_history.specs.Says.{lines_of}

not_true : (b : Bool) → (b ≡ true → ⊥) → b ≡ false
not_true true h = absurd (h refl)
not_true false h = refl

pub cut_at : (bytes : List ℕ) (at : ℕ) → IsFirstByte (found 10) bytes (Some at)
    → lines_of bytes ≡ take at bytes ∷ lines_of (drop 1 (drop at bytes))
cut_at bytes at h =
    let within : at < length bytes = h.0.high in
    let here : get_or bytes at 0 ≡ 10 = eqb-true (get_or bytes at 0) 10 h.1 in
    let tail : drop at bytes ≡ 10 ∷ drop (suc at) bytes = drop-cons bytes at 0 within ∙ ap (λ b. b ∷ drop (suc at) bytes) here in
    let whole : bytes ≡ take at bytes ++ (10 ∷ drop (suc at) bytes) = sym (take-append-drop at bytes) ∙ ap (λ r. take at bytes ++ r) tail in
    let plain : All (λ b. is_byte 10 b ≡ false) (take at bytes) =
    All-from_get_or (λ b. is_byte 10 b ≡ false) (take at bytes) 0 (λ i lt.
    let low : i < at = omega (arith, lt, length-take at bytes) in
    ap (is_byte 10) (get_or-take at bytes i 0 low) ∙ not_true (eqb (get_or bytes i 0) 10) (h.0.before i (omega arith) low)) in
    ap lines_of whole ∙ slice_split_at (is_byte 10) (take at bytes) 10 (drop (suc at) bytes) plain refl
    ∙ ap (λ r. take at bytes ∷ lines_of (drop 1 r)) (sym tail)

pub uncut : (bytes : List ℕ) → IsFirstByte (found 10) bytes None → lines_of bytes ≡ bytes ∷ []
uncut bytes h =
    slice_split_none (is_byte 10) bytes
    (All-from_get_or (λ b. is_byte 10 b ≡ false) bytes 0 (λ i lt. not_true (eqb (get_or bytes i 0) 10) (h i (omega arith) lt)))
