-- Channels that are put one after another.
use Rattle.std.proofs.Common.{◌≡◌, ℕ, List, [], ◌∷◌, true, false, cond, Option, Some, None, refl, ap, subst, sym, ◌∙◌}
use Rattle.std.specs.Prelude.{unwrap_or}
use Rattle.std.specs.Ordering.{nat_cmp}
use Rattle.std.specs.Cmp.Lexicographic.{slice_cmp}
use Rattle.std.specs.Map.{lookup}
use Rattle.std.specs.BTreeMap.{is_at}
use Rattle.std.specs.FinMap as map
use Rattle.conda_path.specs.declared.values.Node.{Node}
use Rattle.conda_device.specs.Channels.{Files}
use Rattle.conda_device.specs.Keys.{same_test}
use Rattle.conda_mem.specs.Given.{files_at, given_files, with_files}

abbrev pub Channels : Type 0
Channels = List (List ℕ × List (List ℕ × Node))

-- the channels so far, with those that are left, give each its files
abbrev pub AreGiven : Channels → Channels → List (List ℕ × Files) → Type 0
AreGiven rest all made = (q : List ℕ) → given_files rest (files_at made q) q ≡ given_files all map.empty q

-- one more is put
one_put : (rest all left : Channels) (p : List ℕ) (files : List (List ℕ × Node)) (shared : Files) (old new : List (List ℕ × Files)) → left ≡ (p, files) ∷ rest
    → ((q : List ℕ) → lookup (is_at (slice_cmp nat_cmp q)) new ≡ cond (is_at (slice_cmp nat_cmp p) q) (Some shared) (lookup (is_at (slice_cmp nat_cmp q)) old))
    → shared ≡ with_files map.empty files → AreGiven left all old → AreGiven rest all new
one_put rest all left p files shared old new is put its_files before q =
    ap (λ o. given_files rest o q) (
    ap (λ o. unwrap_or o map.empty) (put q)
    ∙ elim (is_at (slice_cmp nat_cmp p) q) as (λ b. unwrap_or (cond b (Some shared) (lookup (is_at (slice_cmp nat_cmp q)) old)) map.empty ≡ cond b (with_files map.empty files) (files_at old q)) [
      | true ↦ its_files
      | false ↦ refl
    ]
    ∙ ap (λ b. cond b (with_files map.empty files) (files_at old q)) (same_test p q))
    ∙ ap (λ es. given_files es (files_at old q) q) (sym is) ∙ before q

-- the same where the map's key is the name as the text has it
pub one_put_as : (rest all left : Channels) (p key : List ℕ) (files : List (List ℕ × Node)) (shared : Files) (old new : List (List ℕ × Files)) → left ≡ (p, files) ∷ rest → key ≡ p
    → ((q : List ℕ) → lookup (is_at (slice_cmp nat_cmp q)) new ≡ cond (is_at (slice_cmp nat_cmp key) q) (Some shared) (lookup (is_at (slice_cmp nat_cmp q)) old))
    → shared ≡ with_files map.empty files → AreGiven left all old → AreGiven rest all new
one_put_as rest all left p key files shared old new is same put =
    let P : List ℕ → Type 0 = λ k. (q : List ℕ) → lookup (is_at (slice_cmp nat_cmp q)) new ≡ cond (is_at (slice_cmp nat_cmp k) q) (Some shared) (lookup (is_at (slice_cmp nat_cmp q)) old) in
    one_put rest all left p files shared old new is (subst P same put)
