-- `is_inside` says what being inside means.
use Rattle.std.proofs.Common.{◌≡◌, ◌↔◌, ℕ, true, List, [], ◌∷◌, ◌++◌, length, take, drop, refl, sym, ap, ◌∙◌, inl, inr, subst}
use Rattle.std.specs.Cmp.{first_so, second_so}
use Rattle.std.specs.Str.{bytes_eq}
use Rattle.std.proofs.Math.Seq.{drop-append_seam, take-append_seam}
use Rattle.std.proofs.lemmas.Bool.{eqb-true}
use Rattle.std.proofs.lemmas.List.{append-nil, take-append-drop}
use Rattle.std.proofs.lemmas.Slice.Eq.{bytes_eq-Decides}
use Rattle.conda_base.specs.Signs.{slash}
use Rattle.conda_path.specs.Paths.{IsInside, is_inside, leads_below}

leads : (text other rest : List ℕ) → other ++ rest ≡ text → leads_below rest ≡ true → IsInside text other
leads text other [] e h = inl (sym e ∙ append-nil other)
leads text other (b ∷ path) e h = let slash : b ≡ slash = eqb-true b slash h in inr (path, cc)

pub inside_only : (text other : List ℕ) → is_inside text other ≡ true → IsInside text other
inside_only text other h =
    let front = first_so (bytes_eq (take (length other) text) other) (leads_below (drop (length other) text)) h in
    let same : take (length other) text ≡ other = (bytes_eq-Decides (take (length other) text) other).0 front in
    leads text other (drop (length other) text)
    (ap (λ front. front ++ drop (length other) text) (sym same) ∙ take-append-drop (length other) text)
    (second_so (bytes_eq (take (length other) text) other) (leads_below (drop (length other) text)) h)

inside_front : (other rest : List ℕ) → leads_below rest ≡ true → is_inside (other ++ rest) other ≡ true
inside_front other rest h =
    rw ((bytes_eq-Decides (take (length other) (other ++ rest)) other).1 (take-append_seam other rest), drop-append_seam other rest) h

pub inside_all : (text other : List ℕ) → IsInside text other → is_inside text other ≡ true
inside_all text other (inl same) =
    subst (λ t. is_inside t other ≡ true) (append-nil other ∙ sym same) (inside_front other [] refl)
inside_all text other (inr below) =
    subst (λ t. is_inside t other ≡ true) (sym below.1) (inside_front other (slash ∷ below.0) refl)

pub inside_rule : (text other : List ℕ) → (is_inside text other ≡ true) ↔ IsInside text other
inside_rule text other = (inside_only text other, inside_all text other)
