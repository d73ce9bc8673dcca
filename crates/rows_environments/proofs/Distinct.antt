-- Changes whose paths differ, one more at a time.
use Rattle.std.proofs.Common.{◌≡◌, ◌<◌, ◌≤◌, ◌-◌, List, [], ◌∷◌, drop, take, length, get_or, false, ap, subst, sym, ◌∙◌, arith}
use Rattle.std.proofs.Math.Seq.{take-length}
use Rattle.std.proofs.lemmas.List.{length-drop}
use Rattle.std.specs.List.{AllByRecursion, IsDistinct}
use Rattle.std.specs.Str.{bytes_eq}
use Rattle.std.proofs.lemmas.Map.Keys.{IsDistinct-cons}
use Rattle.conda_lane.specs.Changes.{AreApart, names}
use Rattle.conda_lane.specs.declared.change.Change.{Change}

pub none_apart : (changes : List Change) → length changes < 1 → AreApart changes
unfolding IsDistinct
none_apart [] h = tt
none_apart (change ∷ rest) h = absurd (omega (arith, h))

pub rest_of : (changes : List Change) → take (length changes - 1) (drop 1 changes) ≡ drop 1 changes
rest_of changes = ap (λ n. take n (drop 1 changes)) (sym (length-drop 1 changes)) ∙ take-length (drop 1 changes)

pub one_more_apart : (changes : List Change) (first : Change) (rest : List Change) → 1 ≤ length changes → first ≡ get_or changes 0 first
    → rest ≡ drop 1 changes → bytes_eq first.path first.trash ≡ false
    → AllByRecursion (λ name. bytes_eq first.path name ≡ false) (names rest)
    → AllByRecursion (λ name. bytes_eq first.trash name ≡ false) (names rest)
    → AreApart rest → AreApart changes
one_more_apart [] first rest h is left own path trash apart = absurd (omega (arith, h))
one_more_apart (change ∷ others) first rest h is left own path trash apart =
    subst (λ c. AreApart (c ∷ others)) is
    (subst (λ cs. AreApart (first ∷ cs)) left
    (IsDistinct-cons bytes_eq first.path (first.trash ∷ names rest) (own, path) (IsDistinct-cons bytes_eq first.trash (names rest) trash apart)))
