-- Lemmas on bytes cut at a placeholder.
use Rattle.std.proofs.Common.{◌≡◌, ℕ, ◌+◌, ◌<◌, List, [], ◌∷◌, ◌++◌, length, take, drop, refl, ap, sym, subst, ◌∙◌, append_assoc, length-append, arith, Some}
use Rattle.std.proofs.Math.Seq.{drop-append_seam}
use Rattle.std.proofs.lemmas.List.{take-append-drop, length-take-le}
use Rattle.memchr.specs.Find.{FindsNeedle}
use Rattle.memchr.proofs.lemmas.MatchLemmas.{OccursAt-split}
use Rattle.conda_prefix.specs.Text.{IsPlain, IsCut, CutsInto, joined, IsReplaced}

-- where the first placeholder occurs the bytes are cut
pub cut_at : (placeholder bytes : List ℕ) (at : ℕ) → FindsNeedle bytes placeholder 0 (Some at)
    → IsCut placeholder bytes (take at bytes) (drop (length placeholder) (drop at bytes))
cut_at placeholder bytes at found =
    let long : length (take at bytes) ≡ at = length-take-le at bytes (omega (arith, found.1.fits)) in
    let behind : drop at bytes ≡ placeholder ++ drop (at + length placeholder) bytes = OccursAt-split bytes placeholder at found.1 in
    let rest : drop (length placeholder) (drop at bytes) ≡ drop (at + length placeholder) bytes =
    ap (drop (length placeholder)) behind ∙ drop-append_seam placeholder (drop (at + length placeholder) bytes) in
    record {
      is = sym (take-append-drop at bytes) ∙ ap (λ r. take at bytes ++ r) (behind ∙ ap (λ r. placeholder ++ r) (sym rest));
      first = subst (λ k. FindsNeedle bytes placeholder 0 (Some k)) (sym long) found;
    }

-- bytes that are cut have the placeholder
pub cut_not_plain : (placeholder bytes piece rest : List ℕ) → 0 < length placeholder → IsCut placeholder bytes piece rest → ¬ IsPlain placeholder bytes
cut_not_plain placeholder bytes piece rest some cut none = none (length piece) (omega arith) cut.first.0.high cut.first.1

-- a rest is shorter
pub shorter_rest : (placeholder bytes piece rest : List ℕ) → 0 < length placeholder → IsCut placeholder bytes piece rest → length rest < length bytes
shorter_rest placeholder bytes piece rest some cut = omega (arith, simp length-append at (ap length cut.is))

-- what was made so far, and what is made of what is left, is what is made of the bytes
abbrev pub GoesOn : List ℕ → List ℕ → List ℕ → List ℕ → List ℕ → List ℕ → Type 0
GoesOn placeholder prefix bytes start made rest =
    (more : List (List ℕ)) (last : List ℕ) → CutsInto placeholder more last rest
    → (pieces : List (List ℕ)) × CutsInto placeholder pieces last bytes × (made ++ joined prefix more last ≡ start ++ joined prefix pieces last)

pub goes_on : (placeholder prefix bytes start : List ℕ) → GoesOn placeholder prefix bytes start start bytes
goes_on placeholder prefix bytes start more last cut = (more, cut, refl)

regroup : (made piece prefix later last : List ℕ) → ((made ++ piece) ++ prefix) ++ (later ++ last) ≡ made ++ (((piece ++ prefix) ++ later) ++ last)
regroup made piece prefix later last = simp append_assoc

-- the same behind one more placeholder
pub goes_on_behind : (placeholder prefix bytes start made rest piece left : List ℕ) → GoesOn placeholder prefix bytes start made rest
    → IsCut placeholder rest piece left → GoesOn placeholder prefix bytes start ((made ++ piece) ++ prefix) left
goes_on_behind placeholder prefix bytes start made rest piece left h here more last cut =
    let whole = h (piece ∷ more) last (left, here, cut) in
    (whole.0, whole.1, regroup made piece prefix _ last ∙ whole.2)

-- where no placeholder is left
pub all_replaced : (placeholder prefix bytes start made rest : List ℕ) → GoesOn placeholder prefix bytes start made rest → IsPlain placeholder rest
    → (written : List ℕ) × (made ++ rest ≡ start ++ written) × IsReplaced placeholder prefix bytes written
all_replaced placeholder prefix bytes start made rest h none =
    let whole = h [] rest (refl, none) in
    (joined prefix whole.0 rest, whole.2, record { pieces = whole.0; last = rest; cut = whole.1; is = refl })

-- bytes without the placeholder stay
pub plain_stays : (placeholder prefix bytes : List ℕ) → IsPlain placeholder bytes → IsReplaced placeholder prefix bytes bytes
plain_stays placeholder prefix bytes none = record { pieces = []; last = bytes; cut = (refl, none); is = refl }
