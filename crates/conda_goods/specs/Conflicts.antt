-- Who has which paths, and where two of them conflict, as conda's core/link.py finds packages that clobber one another.
-- That a path may not lie below another one's path either, and which conflict is named, is this project's own.
use Rattle.std.specs.Prelude.{◌≡◌, ◌≢◌, ℕ, ◌⊎◌, List, flat_map, Option, None, Some}
use Rattle.std.specs.List.{AllPairs, Contains}
use Rattle.std.specs.Cmp.Lexicographic.{slice_cmp}
use Rattle.std.specs.Ordering.{nat_cmp}
use Rattle.std.specs.declared.cmp.Ordering.{Ordering}
use Rattle.conda_path.specs.Paths.{IsInside}
use Rattle.conda_path.specs.declared.values.Good.{Good}
use Rattle.conda_goods.specs.Goods.{paths_of}
use Rattle.conda_goods.specs.declared.error.GoodsErr.{GoodsErr}
use Rattle.conda_goods.specs.declared.error.GoodsErr.TheVariants.{Clobber, Memory}
use Rattle.conda_goods.specs.declared.owner.Owner.{Owner}
use Rattle.conda_goods.specs.declared.owner.Owner.TheVariants.{Dist, Other}
use Rattle.conda_goods.specs.declared.owned.Owned.{Owned}

-- ---- who has what

-- The owner of a part, or, as None, the one who has the other paths. A part of `Other` and the other paths have two.
abbrev pub Holder : Type 0
Holder = Option Owner

-- the owner that an answer shows for one of them
abbrev pub shown : Holder → Owner
shown None = Other
shown (Some owner) = owner

-- the holder has the path: among the goods of a part of that owner, or among the other paths
abbrev pub Has : List Owned → List (List ℕ) → Holder → List ℕ → Type 0
Has parts others None path = Contains others path
Has parts others (Some owner) path =
    (part : Owned) × Contains parts part × (part.owner ≡ owner) × Contains (paths_of part.goods) path

-- the goods of all parts, one after another
abbrev pub goods_of : List Owned → List Good
goods_of parts = flat_map (λ part. part.goods) parts

-- no path stands in both parts
abbrev pub ShareNoPath : Owned → Owned → Type 0
ShareNoPath a b = (path : List ℕ) → Contains (paths_of a.goods) path → Contains (paths_of b.goods) path → ⊥

-- no path stands in two parts of one owner
abbrev pub OwnersRepeatNoPath : List Owned → Type 0
OwnersRepeatNoPath parts = AllPairs (λ a b. a.owner ≡ b.owner → ShareNoPath a b) parts

-- ---- where two conflict

-- two conflict at a path: one has it, and the other one has it too or has a path that it lies below
pub record Conflict (parts : List Owned) (others : List (List ℕ)) (path : List ℕ) (one other : Holder) : Type 0 where
  pub two : one ≢ other
  pub has : Has parts others one path
  pub above : (folder : List ℕ) × Has parts others other folder × IsInside path folder

-- nobody conflicts with anybody
abbrev pub NoConflict : List Owned → List (List ℕ) → Type 0
NoConflict parts others = (path : List ℕ) (one other : Holder) → ¬ Conflict parts others path one other

-- one of the two that conflict at a path
abbrev pub Conflicts : List Owned → List (List ℕ) → List ℕ → Holder → Type 0
Conflicts parts others path one =
    (other : Holder) × (Conflict parts others path one other ⊎ Conflict parts others path other one)

-- ---- which conflict is named

-- owners in order: dists by their bytes, then `Other`
abbrev pub owner_cmp : Owner → Owner → Ordering
owner_cmp (Dist a) (Dist b) = slice_cmp nat_cmp a b
owner_cmp (Dist a) Other = Ordering.Less
owner_cmp Other (Dist b) = Ordering.Greater
owner_cmp Other Other = Ordering.Equal

-- one comes before another: the owners of parts in their order, and then the one who has the other paths
abbrev pub IsBefore : Holder → Holder → Type 0
IsBefore None b = ⊥
IsBefore (Some a) None = Unit {0}
IsBefore (Some a) (Some b) = owner_cmp a b ≡ Ordering.Less

-- The least path at which two conflict, and the first two in order of those that conflict there. The path is the longer one of
-- a path and one that it lies below.
pub record IsFirstConflict (parts : List Owned) (others : List (List ℕ)) (path : List ℕ) (first second : Holder) : Type 0 where
  pub conflict : Conflict parts others path first second ⊎ Conflict parts others path second first
  pub order : IsBefore first second
  pub least : (later : List ℕ) (one other : Holder) →
      Conflict parts others later one other → slice_cmp nat_cmp later path ≢ Ordering.Less
  pub first_two : (one : Holder) → Conflicts parts others path one → (one ≡ first) ⊎ (one ≡ second) ⊎ IsBefore second one

-- the error names the first conflict, or it is want of memory
abbrev pub NamesFirstConflict : List Owned → List (List ℕ) → GoodsErr → Type 0
NamesFirstConflict parts others Memory = Unit {0}
NamesFirstConflict parts others (Clobber path first second) =
    (one : Holder) × (other : Holder) × (shown one ≡ first) × (shown other ≡ second)
    × IsFirstConflict parts others path one other
