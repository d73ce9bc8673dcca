-- The map from paths to nodes that the entries of a `BTreeMap` make: laws.
use Rattle.std.specs.Prelude.{◌≡◌, ℕ, List, [], ◌∷◌, ◌&&◌, true, false, Bool, Option, Some, None, cond, refl}
use Rattle.std.specs.Ordering.{is_lt, nat_cmp}
use Rattle.std.specs.Cmp.{eq_by_cmp_equiv}
use Rattle.std.specs.Cmp.Lexicographic.{slice_cmp, nat_list_cmp_total}
use Rattle.std.specs.List.{AllByRecursion}
use Rattle.std.specs.List.Sorted.{IsStrictlySortedBy}
use Rattle.std.specs.Map.{keys_of, lookup}
use Rattle.std.specs.BTreeMap.{is_at}
use Rattle.std.specs.FinMap as map
use Rattle.std.specs.FinMap.Entries.{below_all}
use Rattle.std.specs.declared.cmp.Ordering.{Ordering}
use Rattle.std.proofs.Common.{T, ap, subst, sym, ◌∙◌}
use Rattle.std.proofs.lemmas.Map.Lookups.{exact_bytes}
use Rattle.conda_path.specs.declared.values.Node.{Node}
use Rattle.conda_device.specs.Tree.{Tree}

abbrev pub Entries : Type 0
Entries = List (List ℕ × Node)

abbrev pub tree_of : Entries → Tree
tree_of es = map.from_entries es

find_lookup : (es : Entries) (p : List ℕ) → map.find (slice_cmp nat_cmp) p es ≡ lookup (is_at (slice_cmp nat_cmp p)) es
find_lookup [] p = refl
find_lookup (e ∷ es) p = ap (cond (is_at (slice_cmp nat_cmp p) e.0) (Some e.1)) (find_lookup es p)

-- what it has at a path
pub get_tree : (es : Entries) (p : List ℕ) → map.get (tree_of es) p ≡ lookup (is_at (slice_cmp nat_cmp p)) es
get_tree es p = map.get-from_entries nat_list_cmp_total es p ∙ find_lookup es p

-- entries that differ at one path make trees that differ there
pub one_put : (es fs : Entries) (p : List ℕ) (n : Node)
    → ((q : List ℕ) → lookup (is_at (slice_cmp nat_cmp q)) fs ≡ cond (is_at (slice_cmp nat_cmp p) q) (Some n) (lookup (is_at (slice_cmp nat_cmp q)) es))
    → tree_of fs ≡ map.insert (tree_of es) p n
one_put es fs p n h = map.same_map nat_list_cmp_total exact_bytes _ _ (λ q.
    get_tree fs q ∙ h q ∙ ap (λ b. cond b (Some n) (lookup (is_at (slice_cmp nat_cmp q)) es)) ((eq_by_cmp_equiv nat_list_cmp_total).symm p q)
    ∙ sym (map.get-insert nat_list_cmp_total (tree_of es) p n q ∙ ap (cond (is_at (slice_cmp nat_cmp q) p) (Some n)) (get_tree es q)))

both : (a b : Bool) → T a → T b → T (a && b)
both true b h i = i
both false b h i = absurd h

-- ---- the paths of a map

below_of : (k : List ℕ) (es : Entries) → AllByRecursion (λ q. slice_cmp nat_cmp k q ≡ Ordering.Less) (keys_of es) → T (below_all (slice_cmp nat_cmp) k es)
below_of k [] h = tt
below_of k (e ∷ es) h = both (is_lt (slice_cmp nat_cmp k e.0)) _ (subst (λ r. T (is_lt r)) (sym h.0) tt) (below_of k es h.1)

sorted_of : (es : Entries) → IsStrictlySortedBy (slice_cmp nat_cmp) (keys_of es) → T (map.is_sorted (slice_cmp nat_cmp) es)
unfolding IsStrictlySortedBy
sorted_of [] h = tt
sorted_of (e ∷ es) h = both (below_all (slice_cmp nat_cmp) e.0 es) _ (below_of e.0 es h.0) (sorted_of es h.1)

-- entries in order are those of the tree that they make
pub keys_tree : (es : Entries) → IsStrictlySortedBy (slice_cmp nat_cmp) (keys_of es) → map.keys (tree_of es) ≡ keys_of es
keys_tree es h =
    let sorted = sorted_of es h in
    ap (λ tree. map.keys tree) (map.same_map nat_list_cmp_total exact_bytes (tree_of es) (map.from_sorted es) (λ q. map.get-from_entries nat_list_cmp_total es q ∙ sym (map.get-from_sorted (slice_cmp nat_cmp) es q sorted)))
    ∙ ap keys_of (map.entries-from_sorted (slice_cmp nat_cmp) es sorted)
