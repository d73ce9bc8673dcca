-- Texts of which each comes before the next come before all later ones.
use Rattle.std.proofs.Common.{◌≡◌, ◌↔◌, ℕ, ◌<◌, List, [], ◌∷◌, length, get_or, suc, zero, arith}
use Rattle.std.specs.Cmp.Lexicographic.{nat_list_cmp_total, slice_cmp}
use Rattle.std.specs.List.{AllPairs}
use Rattle.std.specs.Ordering.{nat_cmp}
use Rattle.std.specs.declared.cmp.Ordering.TheVariants.{Less}
use Rattle.conda_base.specs.Texts.{Ascending, IsBeforeFirst}

before_all : (text : List ℕ) (rest : List (List ℕ)) → IsBeforeFirst text rest → Ascending rest → (j : ℕ) (d : List ℕ) → j < length rest → slice_cmp nat_cmp text (get_or rest j d) ≡ Less
before_all text [] h a j d q = absurd (omega (arith, q))
before_all text (next ∷ rest) h a zero d q = h
before_all text (next ∷ rest) h a (suc j) d q =
    nat_list_cmp_total.trans text next (get_or rest j d) h (before_all next rest a.0 a.1 j d (omega (arith, q)))

all_pairs : (texts : List (List ℕ)) → Ascending texts → AllPairs (λ a b. slice_cmp nat_cmp a b ≡ Less) texts
all_pairs [] h i j d p q = absurd (omega (arith, q))
all_pairs (text ∷ rest) h zero zero d p q = absurd (omega (arith, p))
all_pairs (text ∷ rest) h zero (suc j) d p q = before_all text rest h.0 h.1 j d (omega (arith, q))
all_pairs (text ∷ rest) h (suc i) zero d p q = absurd (omega (arith, p))
all_pairs (text ∷ rest) h (suc i) (suc j) d p q = all_pairs rest h.1 i j d (omega (arith, p)) (omega (arith, q))

pairs_ascend : (texts : List (List ℕ)) → AllPairs (λ a b. slice_cmp nat_cmp a b ≡ Less) texts → Ascending texts
pairs_ascend [] h = tt
pairs_ascend (text ∷ []) h = (tt, tt)
pairs_ascend (text ∷ next ∷ rest) h =
    (h 0 1 [] (omega arith) (omega arith), pairs_ascend (next ∷ rest) (λ i j d p q. h (suc i) (suc j) d (omega (arith, p)) (omega (arith, q))))

pub ascending_law : (texts : List (List ℕ)) → Ascending texts ↔ AllPairs (λ a b. slice_cmp nat_cmp a b ≡ Less) texts
ascending_law texts = (all_pairs texts, pairs_ascend texts)
