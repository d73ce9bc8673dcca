-- A tree whose paths lie in one share, after a call on it.
use Rattle.std.proofs.Common.{◌≡◌, ℕ, List, true, false, true≢false, cond, Some, None, IsSome, is_some, refl, ap, subst, sym, ◌∙◌}
use Rattle.std.specs.FinMap as map
use Rattle.std.specs.Str.{bytes_eq}
use Rattle.std.proofs.lemmas.Slice.Eq.{bytes_eq-Decides}
use Rattle.conda_path.specs.declared.values.Node.{Node}
use Rattle.conda_device.specs.Tree.{Tree, move}
use Rattle.conda_device.specs.Trees.{get_erased, get_moved, get_put}

module _ (P : List ℕ → Type 0) (tree : Tree) (inside : (q : List ℕ) → IsSome (map.get tree q) → P q) where
  -- a node was put at a path of the share
  pub inside_put : (p : List ℕ) (node : Node) → P p → (q : List ℕ) → IsSome (map.get (map.insert tree p node) q) → P q
  inside_put p node here q found =
      elim (bytes_eq q p) as (λ b. bytes_eq q p ≡ b → IsSome (cond b (Some node) (map.get tree q)) → P q) [
        | true ↦ λ is _. let e = sym ((bytes_eq-Decides q p).0 is) in subst P e here
        | false ↦ λ _ there. inside q there
      ] refl (sym (ap is_some (get_put tree p q node)) ∙ found)

  -- a path was erased
  pub inside_erased : (p q : List ℕ) → IsSome (map.get (map.remove tree p) q) → P q
  inside_erased p q found =
      elim (bytes_eq q p) as (λ b. IsSome (cond b None (map.get tree q)) → P q) [
        | true ↦ λ none. absurd (true≢false (sym none))
        | false ↦ λ there. inside q there
      ] (sym (ap is_some (get_erased tree p q)) ∙ found)

  -- a node was moved to a path of the share
  pub inside_moved : (from to : List ℕ) → IsSome (map.get tree from) → P to → (q : List ℕ) → IsSome (map.get (move tree from to) q) → P q
  inside_moved from to there here q found =
      elim (bytes_eq q to) as (λ b. bytes_eq q to ≡ b → IsSome (cond b (map.get tree from) (cond (bytes_eq q from) None (map.get tree q))) → P q) [
        | true ↦ λ is _. let e = sym ((bytes_eq-Decides q to).0 is) in subst P e here
        | false ↦ λ _.
            elim (bytes_eq q from) as (λ b. IsSome (cond b None (map.get tree q)) → P q) [
              | true ↦ λ none. absurd (true≢false (sym none))
              | false ↦ λ is. inside q is
            ]
      ] refl (sym (ap is_some (get_moved tree from to q there)) ∙ found)
