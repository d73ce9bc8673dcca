-- The paths of all holders in one list, and where one of them meets another's: the same as in `Conflicts`, as functions.
use Rattle.std.specs.Prelude.{◌≡◌, ℕ, Bool, true, false, ◌&&◌, not, if◌then◌else◌, List, [], ◌∷◌, ◌++◌, map, flat_map, option_copied, Option, None, Some}
use Rattle.std.specs.List.{list_any}
use Rattle.std.specs.Cmp.Lexicographic.{slice_cmp}
use Rattle.std.specs.Option.{option_map_or}
use Rattle.std.specs.Ordering.{is_lt, nat_cmp}
use Rattle.conda_base.specs.Texts.{is_text}
use Rattle.conda_path.specs.Paths.{is_inside}
use Rattle.conda_goods.specs.Conflicts.{Holder, owner_cmp, shown}
use Rattle.conda_goods.specs.declared.error.GoodsErr.{GoodsErr}
use Rattle.conda_goods.specs.declared.error.GoodsErr.TheVariants.{Clobber, Memory}
use Rattle.conda_goods.specs.declared.owner.Owner.{Owner}
use Rattle.conda_goods.specs.declared.owner.Owner.TheVariants.{Dist, Other}
use Rattle.conda_goods.specs.declared.owned.Owned.{Owned}
use Rattle.conda_goods.specs.declared.claims.Claim.{Claim}
use Rattle.conda_goods.specs.declared.held.Held.{Held}
use Rattle.conda_goods.specs.declared.held.Held.TheVariants.{One, Several}

-- a path and its holder
abbrev pub Claimed : Type 0
Claimed = Holder × List ℕ

-- the claims of a part, and of all parts and the others
abbrev pub part_claims : Owned → List Claimed
part_claims part = map (λ good. (Some part.owner, good.path)) part.goods

abbrev pub other_claims : List (List ℕ) → List Claimed
other_claims others = map (λ path. (None, path)) others

abbrev pub claims_of : List Owned → List (List ℕ) → List Claimed
claims_of parts others = flat_map part_claims parts ++ other_claims others

-- what the program's claim says
abbrev pub claimed : Claim → Claimed
claimed claim = (option_copied claim.holder, claim.path.now)

-- two owners are one
abbrev pub same_owner : Owner → Owner → Bool
same_owner (Dist a) (Dist b) = is_text a b
same_owner (Dist a) Other = false
same_owner Other (Dist b) = false
same_owner Other Other = true

-- two holders are two
abbrev pub differ : Holder → Holder → Bool
differ None None = false
differ None (Some b) = true
differ (Some a) None = true
differ (Some a) (Some b) = not (same_owner a b)

-- another holder has this very path
abbrev pub other_has : List Claimed → Holder → List ℕ → Bool
other_has claims holder path = list_any (λ c. is_text c.1 path && differ c.0 holder) claims

-- another holder has this path or one that it lies below
abbrev pub other_above : List Claimed → Holder → List ℕ → Bool
other_above claims holder path = list_any (λ c. is_inside path c.1 && differ c.0 holder) claims

-- what is held at a path has another holder
abbrev pub held_by_other : Holder → Option Held → Bool
held_by_other holder None = false
held_by_other holder (Some (One one)) = differ (option_copied one) holder
held_by_other holder (Some Several) = true

-- ---- which of them is named

-- the path comes before another one, if there is one
abbrev pub is_least_yet : List ℕ → Option (List ℕ) → Bool
is_least_yet path least = option_map_or (λ other. is_lt (slice_cmp nat_cmp path other)) least true

-- The least of a path, if there is one, and the paths of these claims that meet one of another holder among all.
abbrev pub least_meeting : List Claimed → List Claimed → Option (List ℕ) → Option (List ℕ)
least_meeting all [] least = least
least_meeting all (c ∷ claims) least =
    least_meeting all claims (if is_least_yet c.1 least && other_above all c.0 c.1 then Some c.1 else least)

-- the owner comes before another one, if there is one
abbrev pub is_first_yet : Owner → Option Owner → Bool
is_first_yet owner first = option_map_or (λ other. is_lt (owner_cmp owner other)) first true

-- the owner of the claim where it is one of a part, other than one holder, with the path or one that it lies below
abbrev pub first_of_two : List ℕ → Holder → Holder → List ℕ → Option Owner → Option Owner
first_of_two path except None folder first = first
first_of_two path except (Some owner) folder first =
    if is_first_yet owner first && differ (Some owner) except && is_inside path folder then Some owner else first

-- the first of an owner, if there is one, and the owners of these claims
abbrev pub first_above : List ℕ → Holder → List Claimed → Option Owner → Option Owner
first_above path except [] first = first
first_above path except (c ∷ claims) first = first_above path except claims (first_of_two path except c.0 c.1 first)

-- the error names a path, and the first two that have it or one that it lies below
abbrev pub NamesFirst : List Claimed → List ℕ → GoodsErr → Type 0
NamesFirst claims path Memory = Unit {0}
NamesFirst claims path (Clobber named first second) =
    let one = first_above path None claims None in
    (named ≡ path) × (shown one ≡ first) × (shown (first_above path one claims None) ≡ second)
