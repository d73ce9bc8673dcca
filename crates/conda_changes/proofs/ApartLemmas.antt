-- Changes that stand by path, with the least unused paths in the trash, name no path twice.
use Rattle.std.proofs.Common.{◌≡◌, ℕ, ◌<◌, ◌^◌, Bool, true, false, List, [], ◌∷◌, arith, refl, sym, subst, ◌∙◌, inr}
use Rattle.std.proofs.lemmas.List.Elements.{Contains-append_right}
use Rattle.std.proofs.lemmas.Slice.Eq.{bytes_eq-Decides}
use Rattle.std.specs.List.{AllByRecursion, Contains, IsDistinct}
use Rattle.std.specs.Str.{bytes_eq}
use Rattle.conda_base.specs.Texts.{Ascending}
use Rattle.conda_lane.specs.Changes.{AreApart, names}
use Rattle.conda_lane.specs.declared.change.Change.{Change}
use Rattle.conda_changes.specs.Moves.{paths_of}
use Rattle.conda_changes.specs.Trash.{HasTrash, IsOutsideTrash}
use Rattle.conda_changes.proofs.TurnLemmas.{IsLess, before_each, less_not_self}

differ : (a b : List ℕ) → ¬ (a ≡ b) → bytes_eq a b ≡ false
differ a b apart = by (bytes_eq a b) refl
  where
    by : (v : Bool) → bytes_eq a b ≡ v → v ≡ false
    by true e = absurd (apart ((bytes_eq-Decides a b).0 e))
    by false e = refl

-- a path outside the trash is none of a change's in the trash
outside : (trash : List (List ℕ)) (number : ℕ) (whole : List Change) (change : Change) (path : List ℕ) → number < 2 ^ 64 → IsOutsideTrash path
    → HasTrash trash number whole change → ¬ (path ≡ change.trash)
outside trash number whole change path small out has same = out number has.k (small, has.small, same ∙ has.stands)

-- the paths of a change are those of no change behind it
apart_from : (trash : List (List ℕ)) (number : ℕ) (whole : List Change) (c : Change) (cs : List Change) → number < 2 ^ 64 → Contains whole c
    → IsOutsideTrash c.path → HasTrash trash number whole c → AllByRecursion (λ other. IsLess c.path other.path) cs
    → AllByRecursion (λ other. IsOutsideTrash other.path) cs → AllByRecursion (HasTrash trash number whole) cs
    → AllByRecursion (λ path. bytes_eq c.path path ≡ false) (names cs) × AllByRecursion (λ path. bytes_eq c.trash path ≡ false) (names cs)
apart_from trash number whole c [] small among out has less outs all = (tt, tt)
apart_from trash number whole c (d ∷ ds) small among out has less outs all =
    let rest = apart_from trash number whole c ds small among out has less.1 outs.1 all.1 in (
      (
        differ c.path d.path (λ same. less_not_self c.path (subst (IsLess c.path) (sym same) less.0)),
        (differ c.path d.trash (outside trash number whole d c.path small out all.0), rest.0),
      ),
      (
        differ c.trash d.path (λ same. outside trash number whole c d.path small outs.0 has (sym same)),
        (differ c.trash d.trash (λ same. all.0.unused (inr (c, among, less.0, same ∙ all.0.stands))), rest.1),
      ),
    )

pub all_apart : (trash : List (List ℕ)) (number : ℕ) (whole changes : List Change) → number < 2 ^ 64
    → ((change : Change) → Contains changes change → Contains whole change) → Ascending (paths_of changes)
    → AllByRecursion (λ change. IsOutsideTrash change.path) changes → AllByRecursion (HasTrash trash number whole) changes → AreApart changes
unfolding IsDistinct
all_apart trash number whole [] small among up outs all = tt
all_apart trash number whole (c ∷ cs) small among up outs all =
    let rest = apart_from trash number whole c cs small (among c (0, omega arith, refl)) outs.0 all.0 (before_each c.path cs up.0 up.1) outs.1 all.1 in (
      (differ c.path c.trash (outside trash number whole c c.path small outs.0 all.0), rest.0),
      (rest.1, all_apart trash number whole cs small (λ change has. among change (Contains-append_right (c ∷ []) cs change has)) up.1 outs.1 all.1),
    )
