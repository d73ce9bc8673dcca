-- What the host in memory has of prefixes.
use Rattle.std.proofs.Common.{◌≡◌, ◌≢◌, ℕ, List, ◌∷◌, true, false, cond, Some, refl, ap, sym, ◌∙◌}
use Rattle.std.specs.Ordering.{nat_cmp}
use Rattle.std.specs.Cmp.Lexicographic.{slice_cmp}
use Rattle.std.specs.BTreeMap.{is_at}
use Rattle.std.specs.FinMap as trees
use Rattle.conda_dev.specs.declared.place.Place.{Place}
use Rattle.conda_device.specs.Keys.{same_test}
use Rattle.conda_device.specs.Tree.{Tree, together}
use Rattle.conda_dev.specs.Memory.{given, lent_in, place_at, told_in, told_of}
use Rattle.conda_dev.proofs.TreeLemmas.{keyed}

-- another prefix isn't found for this one
pub apart : (p q : List ℕ) → q ≢ p → is_at (slice_cmp nat_cmp p) q ≡ false
apart p q ne = elim (is_at (slice_cmp nat_cmp p) q) as (λ b. is_at (slice_cmp nat_cmp p) q ≡ b → b ≡ false) [ true ↦ λ t. absurd (ne (sym (keyed p q t))) | false ↦ λ f. refl ] refl

-- ---- prefixes that are put one after another

-- the places, with the prefixes that are left, give each prefix its tree, and none is lent
pub record AreGiven (rest all : List (List ℕ × Tree)) (places : List (List ℕ × Place)) : Type 0 where
  pub trees : (q : List ℕ) → given rest (told_in (place_at places q)) q ≡ given all (Some trees.empty) q
  pub free : (q : List ℕ) → lent_in (place_at places q) ≡ false

module _ (rest all left : List (List ℕ × Tree)) (p : List ℕ) (tree : Tree) (place : Place) (old new : List (List ℕ × Place)) where
  -- one more is put
  pub one_put : left ≡ (p, tree) ∷ rest
      → ((q : List ℕ) → place_at new q ≡ cond (is_at (slice_cmp nat_cmp p) q) (Some place) (place_at old q))
      → together (told_of place.lanes.items) ≡ Some tree → place.lent ≡ false → AreGiven left all old → AreGiven rest all new
  one_put is put its_tree free before = record {
    trees = λ q.
        ap (λ o. given rest o q) (
        ap told_in (put q)
        ∙ elim (is_at (slice_cmp nat_cmp p) q) as (λ b. told_in (cond b (Some place) (place_at old q)) ≡ cond b (Some tree) (told_in (place_at old q))) [
          | true ↦ its_tree
          | false ↦ refl
        ]
        ∙ ap (λ b. cond b (Some tree) (told_in (place_at old q))) (same_test p q))
        ∙ ap (λ es. given es (told_in (place_at old q)) q) (sym is) ∙ before.trees q;
    free = λ q.
        ap lent_in (put q)
        ∙ elim (is_at (slice_cmp nat_cmp p) q) as (λ b. lent_in (cond b (Some place) (place_at old q)) ≡ false) [
          | true ↦ free
          | false ↦ before.free q
        ];
  }
