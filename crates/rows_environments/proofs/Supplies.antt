-- What a supply with one handle of each kind keeps, and what its handles say of a failure.
use Rattle.std.proofs.Common.{◌≡◌, ◌≤◌, ◌<◌, ◌+◌, ◌-◌, ◌^◌, ◌⊎◌, inl, inr, ℕ, zero, suc, List, [], ◌∷◌, length, get_or, map, Option, Some, None, refl, ap, subst, sym, ◌∙◌, arith}
use Rattle.std.specs.Prelude.{slice_get, Contains, IfSome, unwrap_or}
use Rattle.std.specs.List.{AllByRecursion}
use Rattle.std.proofs.lemmas.List.{get_or-map, length-map}
use Rattle.std.proofs.lemmas.List.Elements.{All-contains, All-from_recursion}
use Rattle.std.proofs.Math.Nat.{le_refl}
use Rattle.std.proofs.lemmas.Option.{none-some}
use Rattle.conda_path.specs.declared.values.Good.{Good}
use Rattle.conda_path.specs.declared.values.Node.{Node}
use Rattle.conda_device.specs.Tree.{Tree}
use Rattle.conda_checked.specs.declared.lack.Lack.{Lack}
use Rattle.conda_checked.specs.declared.lack.Lacks.{Lacks}
use Rattle.conda_lane.specs.Changes.{IsOf, at}
use Rattle.conda_lane.specs.Supplies.{EachHandle, HasSupplyCause, IsChanLack, IsGiven, Keeps, KeepsGood, KeepsLacks, SomeHandle, SupplyState}
use Rattle.conda_lane.specs.declared.supply.SupplyErr.{SupplyErr}
use Rattle.rows_environments.specs.Supplies.{file_of, supply_of}

-- ---- the only handle

one_place : {H : Type 0} (R : ℕ → H → H → Type 0) (was is : H) → R 0 was is → (place : ℕ) (a b : H)
    → slice_get (was ∷ []) place ≡ Some a → slice_get (is ∷ []) place ≡ Some b → R place a b
one_place R was is h zero a b e f = subst (λ x. R 0 x b) (ap (λ found. unwrap_or found was) e) (subst (λ y. R 0 was y) (ap (λ found. unwrap_or found is) f) h)
one_place R was is h (suc place) a b e f = absurd (none-some a e)

pub each_one : {H : Type 0} (R : ℕ → H → H → Type 0) (was is : H) → R 0 was is → EachHandle R (was ∷ []) (is ∷ [])
each_one R was is h = record { count = refl; each = one_place R was is h }

pub some_one : {H : Type 0} (R : ℕ → H → H → Type 0) (was is : H) → R 0 was is → SomeHandle R (was ∷ []) (is ∷ [])
some_one R was is h = record { place = 0; was = was; is = is; before_it = refl; now_it = refl; holds = h }

-- ---- what is kept

pub lacks_same : (P : Lack → Type 0) (lacks : Lacks) → KeepsLacks P lacks lacks
lacks_same P lacks = record { absents = le_refl lacks.absents; mismatches = le_refl lacks.mismatches; last = inl refl }

pub keeps : (goods : List Good) (kept : Tree) (channel channel' cache cache' : ℕ) (lacks lacks' : Lacks) → channel ≤ channel' → cache ≤ cache'
    → KeepsLacks (IsChanLack (map file_of goods) 0) lacks lacks'
    → Keeps (supply_of goods kept channel cache lacks) (supply_of goods kept channel' cache' lacks')
keeps goods kept channel channel' cache cache' lacks lacks' more_channel more_cache same = record {
  goods = refl;
  kept = refl;
  chan_files = refl;
  store_files = refl;
  chans = each_one _ _ _ (record { name = refl; told = refl; asked = tt; faults = more_channel; lacks = same });
  stores = each_one _ _ _ (record { touched = refl; faults = more_cache; lacks = lacks_same _ _ });
}

pub keeps_all : (goods : List Good) (kept : Tree) (channel cache : ℕ) (lacks : Lacks) → Keeps (supply_of goods kept channel cache lacks) (supply_of goods kept channel cache lacks)
keeps_all goods kept channel cache lacks =
    keeps goods kept channel channel cache cache lacks lacks (le_refl channel) (le_refl cache) (lacks_same _ lacks)

-- ---- what is given

pub given_fitting : (state : SupplyState) (path : List ℕ) (node : Node)
    → AllByRecursion (λ good. good.path ≡ path → IsOf good node) state.goods → at state.kept path ≡ None → IsGiven state path node
given_fitting state path node all none =
    let P : Good → Type 0 = λ good. good.path ≡ path → IsOf good node in
    record {
      good = λ good among same. All-contains P state.goods good (All-from_recursion P state.goods all) among same;
      kept = subst (λ found. IfSome found (λ keeps. node ≡ keeps)) (sym none) tt;
    }

pub given_kept : (state : SupplyState) → KeepsGood state → (path : List ℕ) (node : Node) → at state.kept path ≡ Some node → IsGiven state path node
given_kept state keeps_good path node is = record {
  good = λ good among same. keeps_good node good among (ap (at state.kept) same ∙ is);
  kept = subst (λ found. IfSome found (λ keeps. node ≡ keeps)) (sym is) refl;
}

-- ---- why nothing is given

pub memory_is_free : (e : SupplyErr) (before now : SupplyState) → e ≡ SupplyErr.Memory → HasSupplyCause e before now
memory_is_free e before now is = subst (λ e. HasSupplyCause e before now) (sym is) tt

-- each good has its file
file_among : (goods : List Good) (good : Good) → Contains goods good → Contains (map file_of goods) (file_of good)
file_among goods good among =
    let i = among.0 in
    (i, subst (λ n. i < n) (sym (length-map goods file_of)) among.1, get_or-map file_of goods i good (file_of good) among.1 ∙ ap file_of among.2)

pub lacks_good : (goods : List Good) (good : Good) (lack : Lack) → Contains goods good → lack.path ≡ good.path → lack.want ≡ Some (good.size, good.digest)
    → IsChanLack (map file_of goods) 0 lack
lacks_good goods good lack among path want = (file_of good, file_among goods good among, refl, (path, want))
