-- No literal of a request's clauses is 0.
use Rattle.std.proofs.Common.{◌≡◌, ℕ, zero, suc, ◌≤◌, ℤ, pos, negsuc, true, false, List, [], ◌∷◌, filter, get_or, ap, ◌∙◌, inl, inr, arith, int_eq}
use Rattle.std.proofs.lemmas.Bool.Decides.{Decides-int_eq}
use Rattle.conda_refute.specs.Literals.{has}
use Rattle.conda_spec.specs.Parts.{Parts}
use Rattle.conda_record.specs.declared.pool.NamePool.{NamePool}
use Rattle.conda_encode.specs.Clauses.{each_barred, off, on, some_named}
use Rattle.conda_encode.specs.Known.{HasSplit}
use Rattle.conda_encode.specs.Matching.{bars, names}
use Rattle.conda_encode.specs.Variables.{variables}
use Rattle.conda_encode.specs.declared.known.Known.{Known}
use Rattle.conda_encode.specs.declared.known.Split.{Split}
use Rattle.conda_encode.proofs.Meaning.{low_of}
use Rattle.conda_encode.proofs.Members.{In, of_filter, of_map}
use Rattle.conda_encode.proofs.Sides.{Numbered}
use Rattle.conda_encode.proofs.Walks.{any_none}

on_nonzero : (n : ℕ) → 1 ≤ n → int_eq (pos 0) (on n) ≡ true → ⊥
on_nonzero n low h =
    let e : pos 0 ≡ pos n = (Decides-int_eq (pos 0) (on n)).0 h in
    let f : 0 ≡ n = cc in omega arith

off_nonzero : (n : ℕ) → 1 ≤ n → int_eq (pos 0) (off n) ≡ true → ⊥
off_nonzero zero low h = omega arith
off_nonzero (suc n) low h = let e : pos 0 ≡ negsuc n = (Decides-int_eq (pos 0) (negsuc n)).0 h in cc

only_off : (n : ℕ) (l : ℤ) → 1 ≤ n → In l (off n ∷ []) → int_eq (pos 0) l ≡ true → ⊥
only_off n l low (inl e) h = off_nonzero n low (ap (int_eq (pos 0)) e ∙ h)
only_off n l low (inr i) h = i

pub has_off : (n : ℕ) → 1 ≤ n → has (off n ∷ []) (pos 0) ≡ false
has_off n low = any_none (λ l. int_eq (pos 0) l) (off n ∷ []) (λ l i h. only_off n l low i h)

pub named_nonzero : (pools : List NamePool) (spec : Parts) → has (some_named pools spec) (pos 0) ≡ false
named_nonzero pools spec =
    any_none (λ l. int_eq (pos 0) l) (some_named pools spec) (λ l i h.
    let x : (x : Numbered) × In x (filter (λ x. names spec x.1) (variables pools)) × (on x.0 ≡ l) = of_map (λ (x : Numbered). on x.0) (filter (λ x. names spec x.1) (variables pools)) l i in
    on_nonzero x.0.0 (low_of pools x.0 (of_filter (λ (y : Numbered). names spec y.1) (variables pools) x.0 x.1).0) (ap (int_eq (pos 0)) x.2 ∙ h))

pub barred_nonzero : (pools : List NamePool) (spec : Parts) → has (each_barred pools spec) (pos 0) ≡ false
barred_nonzero pools spec =
    any_none (λ l. int_eq (pos 0) l) (each_barred pools spec) (λ l i h.
    let x : (x : Numbered) × In x (filter (λ x. bars spec x.1) (variables pools)) × (off x.0 ≡ l) = of_map (λ (x : Numbered). off x.0) (filter (λ x. bars spec x.1) (variables pools)) l i in
    off_nonzero x.0.0 (low_of pools x.0 (of_filter (λ (y : Numbered). bars spec y.1) (variables pools) x.0 x.1).0) (ap (int_eq (pos 0)) x.2 ∙ h))

-- the lists of a split that was found
pub list_named : (pools : List NamePool) (spec : Parts) (known : Known) (at : ℕ) (split : Split) (list : List ℤ) → HasSplit pools spec known at →
    split ≡ get_or known.splits.items at split → list ≡ split.named.items → list ≡ some_named pools spec
list_named pools spec known at split list found is same = same ∙ ap (λ (s : Split). s.named.items) is ∙ (found.1 split).named

pub list_barred : (pools : List NamePool) (spec : Parts) (known : Known) (at : ℕ) (split : Split) (list : List ℤ) → HasSplit pools spec known at →
    split ≡ get_or known.splits.items at split → list ≡ split.barred.items → list ≡ each_barred pools spec
list_barred pools spec known at split list found is same = same ∙ ap (λ (s : Split). s.barred.items) is ∙ (found.1 split).barred

pub list_nonzero : (list other : List ℤ) → list ≡ other → has other (pos 0) ≡ false → has list (pos 0) ≡ false
list_nonzero list other e h = ap (λ ls. has ls (pos 0)) e ∙ h
