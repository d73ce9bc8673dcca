-- What stands at each path of a tree that a call changed. This project's own.
use Rattle.std.specs.Prelude.{◌≡◌, ℕ, List, [], ◌∷◌, All, ◌&&◌, Option, Some, None, IsSome, if◌then◌else◌}
use Rattle.std.specs.Prelude.{map as list_map}
use Rattle.std.specs.Cmp.{eq_by_cmp_equiv}
use Rattle.std.specs.Ordering.{is_lt, nat_cmp}
use Rattle.std.specs.declared.cmp.Ordering.{Ordering}
use Rattle.std.specs.declared.cmp.Ordering.TheVariants as orders
use Rattle.std.specs.Cmp.Lexicographic.{nat_list_cmp_total, slice_cmp, texts_ties}
use Rattle.std.specs.FinMap as map
use Rattle.std.specs.Str.{bytes_eq}
use Rattle.std.proofs.Common.{Bool, true, false, refl, T, true≢false, ap, cond, sym, ◌∙◌}
use Rattle.std.proofs.lemmas.Map.Views.{All-from_any}
use Rattle.std.proofs.lemmas.Map.Lookups.{exact_bytes}
use Rattle.conda_base.specs.Texts.{Ascending}
use Rattle.conda_path.specs.declared.values.Node.{Node}
use Rattle.conda_device.specs.Tree.{Tree, move, with_found}

-- a node was put
pub get_put : (tree : Tree) (path other : List ℕ) (node : Node)
    → map.get (map.insert tree path node) other ≡ (if bytes_eq other path then Some node else map.get tree other)
get_put tree path other node =
    map.get-insert nat_list_cmp_total tree path node other ∙ ap (λ b. cond b (Some node) (map.get tree other)) (sym (texts_ties other path))

-- a path was erased
pub get_erased : (tree : Tree) (path other : List ℕ)
    → map.get (map.remove tree path) other ≡ (if bytes_eq other path then None else map.get tree other)
get_erased tree path other = map.get-remove nat_list_cmp_total tree path other ∙ ap (λ b. cond b None (map.get tree other)) (sym (texts_ties other path))

found_there : (tree : Tree) (path other : List ℕ) (found : Option Node) → IsSome found
    → map.get (with_found tree path found) other ≡ (if bytes_eq other path then found else map.get tree other)
found_there tree path other None is = absurd (true≢false (sym is))
found_there tree path other (Some node) is = get_put tree path other node

-- a node was moved
pub get_moved : (tree : Tree) (from to other : List ℕ) → IsSome (map.get tree from)
    → map.get (move tree from to) other ≡ (if bytes_eq other to then map.get tree from else (if bytes_eq other from then None else map.get tree other))
get_moved tree from to other is =
    found_there (map.remove tree from) to other (map.get tree from) is
    ∙ ap (λ found. cond (bytes_eq other to) (map.get tree from) found) (get_erased tree from other)

-- trees that have the same at each path are one
pub same_trees : (one other : Tree) → ((path : List ℕ) → map.get one path ≡ map.get other path) → one ≡ other
same_trees = map.same_map nat_list_cmp_total exact_bytes

-- ---- the paths of a tree

both_of : (a b : Bool) → T (a && b) → T a × T b
both_of true b h = (tt, h)
both_of false b h = absurd h

is_less : (order : Ordering) → T (is_lt order) → order ≡ Ordering.Less
is_less orders.Less h = refl
is_less orders.Equal h = absurd h
is_less orders.Greater h = absurd h

ascending : (es : List (List ℕ × Node)) → T (map.is_sorted (slice_cmp nat_cmp) es) → Ascending (list_map (λ e. e.0) es)
ascending [] h = tt
ascending (e ∷ []) h = (tt, tt)
ascending (e ∷ f ∷ es) h =
    let parts = both_of _ _ h in
    let first = both_of _ _ parts.0 in
    (is_less _ first.0, ascending (f ∷ es) parts.1)

-- they ascend
pub ascending_keys : (tree : Tree) → Ascending (map.keys tree)
ascending_keys tree = ascending (map.entries tree) (map.entries_sorted tree)

-- what holds of each path at which a node stands holds of all paths
pub all_keys : (P : List ℕ → Type 0) (tree : Tree) → ((path : List ℕ) → IsSome (map.get tree path) → P path) → All P (map.keys tree)
all_keys P tree each =
    All-from_any (eq_by_cmp_equiv nat_list_cmp_total) P (map.keys tree) (λ path found. each path (map.contains_key-keys tree path ∙ found))
