-- Lanes, and lists of them. This project's own.
use Rattle.std.specs.Prelude.{◌≡◌, ◌<◌, ℕ, true, ◌+◌, List, [], ◌∷◌, ◌++◌, map, length, replicate, get_or, slice_set, All, Option, IfSome, IsSome, refl}
use Rattle.std.specs.List.{range_with_len}
use Rattle.std.specs.FinMap as trees
use Rattle.std.proofs.Common.{zero-add, ap, sym, ◌∙◌}
use Rattle.std.proofs.Math.Seq.{map-set_same}
use Rattle.std.proofs.lemmas.List.{get_or-map, get_or-replicate, map-append, length-map, length-set, replicate-append-replicate}
use Rattle.std.proofs.lemmas.List.Elements.{All-append, All-cons, All-nil}
use Rattle.std.proofs.lemmas.List.FromFn.{get_or-range_with_len, length-range_with_len, map-range_with_len_more}
use Rattle.conda_path.specs.Lanes.{lane_number}
use Rattle.conda_device.specs.declared.lane.Abilities.{Abilities}
use Rattle.conda_device.specs.Tree.{Tree}

-- What never changes of a lane: its number, how many lanes share the prefix, and what it can do.
pub record Share : Type 0 where
  pub number : ℕ
  pub lanes : ℕ
  pub abilities : Abilities

-- it can do all
abbrev pub can_all : Abilities
can_all = record { hard = true; soft = true; exec = true }

-- the path's lane, of so many, is this one
abbrev pub IsInShare : Share → List ℕ → Type 0
IsInShare share path = lane_number path share.lanes ≡ share.number

-- every path that is told lies in the share
abbrev pub LiesInShare : Option Tree → Share → Type 0
LiesInShare told share = IfSome told (λ tree. (path : List ℕ) → IsSome (trees.get tree path) → IsInShare share path)

-- the lanes stand in the order of their numbers, which begin at 0, and each knows how many they are
pub record InPlace {L : Type 0} (share_of : L → Share) (all : List L) : Type 0 where
  pub numbers : map (λ lane. (share_of lane).number) all ≡ range_with_len 0 (length all)
  pub counts : map (λ lane. (share_of lane).lanes) all ≡ replicate (length all) (length all)

-- these are so many lanes, each at the place of its number, and none has a fault
pub record AreNew {L : Type 0} (share_of : L → Share) (faults_of : L → ℕ) (n : ℕ) (all : List L) : Type 0 where
  pub count : length all ≡ n
  pub placed : InPlace share_of all
  pub unharmed : All (λ lane. faults_of lane ≡ 0) all

-- so many lanes of all stand in the order of their numbers, with no fault
pub record LinesUp {L : Type 0} (share_of : L → Share) (faults_of : L → ℕ) (have all : ℕ) (made : List L) : Type 0 where
  pub numbers : map (λ lane. (share_of lane).number) made ≡ range_with_len 0 have
  pub counts : map (λ lane. (share_of lane).lanes) made ≡ replicate have all
  pub unharmed : All (λ lane. faults_of lane ≡ 0) made

-- ---- laws, for what makes lanes one after another

map_same : (xs : List ℕ) → map (λ x. x) xs ≡ xs
map_same [] = refl
map_same (x ∷ xs) = ap (λ ys. x ∷ ys) (map_same xs)

range_more : (n : ℕ) → range_with_len 0 n ++ n ∷ [] ≡ range_with_len 0 (n + 1)
range_more n =
    sym (
    sym (map_same (range_with_len 0 (n + 1))) ∙ map-range_with_len_more (λ x. x) 0 n n (zero-add n)
    ∙ ap (λ xs. xs ++ n ∷ []) (map_same (range_with_len 0 n)))

module _ {L : Type 0} (share_of : L → Share) (faults_of : L → ℕ) where
  pub no_lanes : (all : ℕ) → LinesUp share_of faults_of 0 all []
  no_lanes all = record { numbers = refl; counts = refl; unharmed = All-nil (λ lane. faults_of lane ≡ 0) }

  pub one_more_lane : (have all : ℕ) (made : List L) (lane : L) → LinesUp share_of faults_of have all made
      → (share_of lane).number ≡ have → (share_of lane).lanes ≡ all → faults_of lane ≡ 0
      → LinesUp share_of faults_of (have + 1) all (made ++ lane ∷ [])
  one_more_lane have all made lane lined its_number its_lanes its_faults = record {
    numbers =
        map-append (λ l. (share_of l).number) made (lane ∷ []) ∙ ap (λ xs. xs ++ (share_of lane).number ∷ []) lined.numbers
        ∙ ap (λ x. range_with_len 0 have ++ x ∷ []) its_number ∙ range_more have;
    counts =
        map-append (λ l. (share_of l).lanes) made (lane ∷ []) ∙ ap (λ xs. xs ++ (share_of lane).lanes ∷ []) lined.counts
        ∙ ap (λ x. replicate have all ++ x ∷ []) its_lanes ∙ replicate-append-replicate have 1 all;
    unharmed =
        let none = All-nil (λ l. faults_of l ≡ 0) in
        All-append (λ l. faults_of l ≡ 0) made (lane ∷ []) lined.unharmed (All-cons (λ l. faults_of l ≡ 0) lane [] its_faults none);
  }

  pub all_lanes : (all : ℕ) (made : List L) → LinesUp share_of faults_of all all made → AreNew share_of faults_of all made
  all_lanes all made lined =
      let len : length made ≡ all = sym (length-map made (λ l. (share_of l).number)) ∙ ap length lined.numbers ∙ length-range_with_len 0 all in
      record {
        count = len;
        placed = record {
          numbers = lined.numbers ∙ ap (range_with_len 0) (sym len);
          counts = lined.counts ∙ ap (λ n. replicate n n) (sym len);
        };
        unharmed = lined.unharmed;
      }

-- ---- laws, for what calls one of several lanes

-- what each has stays where a call left one of them what it had, as `lanes[i].look(path)` does
pub map_write : {L A : Type 0} (f : L → A) (all : List L) (i : ℕ) (lane next : L) → f next ≡ f lane → lane ≡ get_or all i lane
    → map f (slice_set all i next) ≡ map f all
map_write f all i lane next same is = map-set_same f all i next lane (same ∙ ap f is)

-- each lane stands at the place of its number after a call of one of them
pub still_placed : {L : Type 0} (share_of : L → Share) (all : List L) (i : ℕ) (lane next : L) → InPlace share_of all
    → lane ≡ get_or all i lane → share_of next ≡ share_of lane → InPlace share_of (slice_set all i next)
still_placed share_of all i lane next placed is its_share =
    let len = length-set all i next in
    record {
      numbers =
          map_write (λ l. (share_of l).number) all i lane next (ap (λ s. s.number) its_share) is ∙ placed.numbers ∙ ap (range_with_len 0) (sym len);
      counts = map_write (λ l. (share_of l).lanes) all i lane next (ap (λ s. s.lanes) its_share) is ∙ placed.counts ∙ ap (λ n. replicate n n) (sym len);
    }

module _ {L : Type 0} (share_of : L → Share) (all : List L) (i : ℕ) (d : L) (placed : InPlace share_of all) (below : i < length all) where
  -- the lane at a place has its number
  pub placed_number : (share_of (get_or all i d)).number ≡ i
  placed_number =
      sym (get_or-map (λ l. (share_of l).number) all i d 0 below) ∙ ap (λ xs. get_or xs i 0) placed.numbers
      ∙ get_or-range_with_len 0 (length all) i 0 below ∙ zero-add i

  -- and knows how many they are
  pub placed_lanes : (share_of (get_or all i d)).lanes ≡ length all
  placed_lanes =
      sym (get_or-map (λ l. (share_of l).lanes) all i d 0 below) ∙ ap (λ xs. get_or xs i 0) placed.counts
      ∙ get_or-replicate (length all) i (length all) 0 below

  -- so a path of that lane lies in its share
  pub placed_share : (path : List ℕ) → lane_number path (length all) ≡ i → IsInShare (share_of (get_or all i d)) path
  placed_share path is = ap (lane_number path) placed_lanes ∙ is ∙ sym placed_number
