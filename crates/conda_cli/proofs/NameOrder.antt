-- The order of names is one, and what `sort_by` gives by it.
use Rattle.std.proofs.Common.{◌≡◌, ℕ, ap, List, Bool, Bor}
use Rattle.std.specs.Ordering.{is_lt}
use Rattle.std.specs.declared.cmp.Ordering.{Ordering}
use Rattle.std.specs.Cmp.{IsStrictWeakOrder, IsTotalOrder}
use Rattle.std.specs.Fn.{ComparesAs, Called, Mut}
use Rattle.std.specs.List.Sorted.{IsSortedBy, IsSorted}
use Rattle.std.proofs.lemmas.Cmp.{nat_list_cmp_total, on_total, then_total}
use Rattle.std.proofs.lemmas.Fn.{always_returns_same}
use Rattle.std.proofs.lemmas.List.MinMax.{ranks_by}
use Rattle.conda_path.specs.Dists.{dist_name}
use Rattle.conda_cli.specs.Report.{name_cmp}

pub name_cmp_total : IsTotalOrder name_cmp
name_cmp_total = then_total (on_total dist_name nat_list_cmp_total) nat_list_cmp_total

-- what is sorted by a closure that compares by names ascends by them
pub IsSorted-from_sort_by : {F : Type 0} {g : Mut F (Bor (List ℕ) × (Bor (List ℕ) × Unit {0})) Ordering} {f : F} (dists : List (List ℕ))
    → ((lt : List ℕ → List ℕ → Bool) → IsStrictWeakOrder lt → ComparesAs g lt f → IsSortedBy lt dists)
    → ((a : Bor (List ℕ) × (Bor (List ℕ) × Unit {0})) (r : Ordering) (f' : F) → Called g f a r f'
    → (r ≡ name_cmp a.0.now a.1.0.now) × (f' ≡ f))
    → IsSorted name_cmp dists
IsSorted-from_sort_by {g = g} {f = f} dists up h =
    up (λ x y. is_lt (name_cmp x y)) (ranks_by name_cmp_total (λ x. x))
    (always_returns_same g (λ a r. is_lt r ≡ is_lt (name_cmp a.0.now a.1.0.now)) f (λ a r f' k. (ap is_lt (h a r f' k).0, (h a r f' k).1)))
