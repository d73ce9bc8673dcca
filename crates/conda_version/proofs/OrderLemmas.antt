-- The order of versions is a total preorder.
use Rattle.std.proofs.Common.{◌≡◌, ℕ, zero, suc, ◌+◌, ◌≤◌, true, false, List, [], ◌∷◌, length, refl, sym, ap, subst, ◌∙◌, arith}
use Rattle.std.specs.Cmp.{IsTotalOrder}
use Rattle.std.specs.Cmp.Lexicographic.{slice_cmp, nat_list_cmp_total}
use Rattle.std.specs.Ordering.{is_gt, is_le, nat_cmp, on, ordering_reverse, ordering_then, then_cmp}
use Rattle.std.specs.declared.cmp.Ordering.{Ordering}
use Rattle.std.specs.declared.cmp.Ordering.TheVariants.{Less, Equal, Greater}
use Rattle.std.proofs.lemmas.Cmp.{lists_total, nat_cmp_total, on_total, then_total, tied_itself, upto}
use Rattle.conda_version.specs.declared.run.Run.{Run}
use Rattle.conda_version.specs.declared.run.Run.TheVariants.{Number, Post, Word}
use Rattle.conda_version.specs.Grammar.{meaning}
use Rattle.conda_version.specs.Order.{components_cmp, meaning_cmp, epoch_and_main, padded_cmp, run_cmp, runs_cmp, version_cmp}

-- A run by its rank among the kinds, its number and its text.
rank : Run → ℕ
rank (Word x) = 0
rank (Number n) = 1
rank Post = 2

number : Run → ℕ
number (Word x) = 0
number (Number n) = n
number Post = 0

word : Run → List ℕ
word (Word x) = x
word (Number n) = []
word Post = []

by_parts : Run → Run → Ordering
by_parts = then_cmp (on rank nat_cmp) (then_cmp (on number nat_cmp) (on word (slice_cmp nat_cmp)))

then_equal : (o : Ordering) → ordering_then o Equal ≡ o
then_equal Less = refl
then_equal Equal = refl
then_equal Greater = refl

run_cmp_is : (x y : Run) → by_parts x y ≡ run_cmp x y
unfolding by_parts rank number word
run_cmp_is (Number m) (Number n) = then_equal (nat_cmp m n)
run_cmp_is (Number m) Post = refl
run_cmp_is (Number m) (Word y) = refl
run_cmp_is Post (Number n) = refl
run_cmp_is Post Post = refl
run_cmp_is Post (Word y) = refl
run_cmp_is (Word x) (Number n) = refl
run_cmp_is (Word x) Post = refl
run_cmp_is (Word x) (Word y) = refl

pub run_total : IsTotalOrder run_cmp
unfolding by_parts
run_total =
    let parts : IsTotalOrder by_parts =
    then_total (on_total rank nat_cmp_total) (then_total (on_total number nat_cmp_total) (on_total word nat_list_cmp_total)) in
    subst IsTotalOrder (λ i x y. run_cmp_is x y i) parts

-- the first n elements of a list that is padded at its end
padded : {A : Type 0} → A → ℕ → List A → List A
padded pad zero xs = []
padded pad (suc n) [] = pad ∷ padded pad n []
padded pad (suc n) (x ∷ xs) = x ∷ padded pad n xs

module _ {A : Type 0} {cmp : A → A → Ordering} (total : IsTotalOrder cmp) (pad : A) where
  padded_is : (n : ℕ) (xs ys : List A) → length xs ≤ n → length ys ≤ n
      → padded_cmp cmp pad xs ys ≡ slice_cmp cmp (padded pad n xs) (padded pad n ys)
  unfolding padded
  padded_is zero [] [] h k = refl
  padded_is zero [] (y ∷ ys) h k = absurd (omega arith)
  padded_is zero (x ∷ xs) ys h k = absurd (omega arith)
  padded_is (suc n) [] [] h k = sym (tied_itself (lists_total total) (padded pad (suc n) []))
  padded_is (suc n) [] (y ∷ ys) h k = ap (ordering_then (cmp pad y)) (padded_is n [] ys (omega arith) (omega arith))
  padded_is (suc n) (x ∷ xs) [] h k = ap (ordering_then (cmp x pad)) (padded_is n xs [] (omega arith) (omega arith))
  padded_is (suc n) (x ∷ xs) (y ∷ ys) h k = ap (ordering_then (cmp x y)) (padded_is n xs ys (omega arith) (omega arith))

  pub padded_total : IsTotalOrder (padded_cmp cmp pad)
  padded_total =
      let lists = lists_total total in
      record {
        antisymm = λ xs ys.
            let n : ℕ = length xs + length ys in
            padded_is n xs ys (omega arith) (omega arith) ∙ lists.antisymm (padded pad n xs) (padded pad n ys)
            ∙ ap ordering_reverse (sym (padded_is n ys xs (omega arith) (omega arith)));
        trans = λ xs ys zs h k.
            let n : ℕ = length xs + length ys + length zs in
            padded_is n xs zs (omega arith) (omega arith)
            ∙ lists.trans (padded pad n xs) (padded pad n ys) (padded pad n zs) (sym (padded_is n xs ys (omega arith) (omega arith)) ∙ h)
            (sym (padded_is n ys zs (omega arith) (omega arith)) ∙ k);
        congr = λ xs ys zs h.
            let n : ℕ = length xs + length ys + length zs in
            padded_is n xs zs (omega arith) (omega arith)
            ∙ lists.congr (padded pad n xs) (padded pad n ys) (padded pad n zs) (sym (padded_is n xs ys (omega arith) (omega arith)) ∙ h)
            ∙ sym (padded_is n ys zs (omega arith) (omega arith));
      }

pub runs_total : IsTotalOrder runs_cmp
runs_total = padded_total run_total (Number 0)

pub components_total : IsTotalOrder components_cmp
components_total = padded_total runs_total []

meaning_total : IsTotalOrder meaning_cmp
meaning_total = then_total (on_total epoch_and_main components_total) (on_total (λ v. v.local) components_total)

pub version_total : IsTotalOrder version_cmp
version_total = on_total meaning meaning_total

le_is : (o : Ordering) → is_le o ≡ true → is_gt o ≡ false
le_is Less h = refl
le_is Equal h = refl
le_is Greater h = cc

gt_is : (o : Ordering) → is_gt o ≡ false → is_le o ≡ true
gt_is Less h = refl
gt_is Equal h = refl
gt_is Greater h = cc

pub version_transitive : (u v w : List ℕ) → is_le (version_cmp u v) ≡ true → is_le (version_cmp v w) ≡ true → is_le (version_cmp u w) ≡ true
version_transitive u v w h k =
    gt_is (version_cmp u w) (upto version_total u v w (le_is (version_cmp u v) h) (le_is (version_cmp v w) k))
