-- The set that a history leaves, and what each block changes in it, as conda's history.py replays it.
use Rattle.std.specs.Prelude.{◌≡◌, ℕ, ◌⊎◌, Bool, true, false, not, if◌then◌else◌, List, [], ◌∷◌, ◌++◌, filter}
use Rattle.std.specs.Ordering.{nat_cmp}
use Rattle.std.specs.Cmp.Lexicographic.{slice_cmp}
use Rattle.std.specs.List.{AllByRecursion, list_any}
use Rattle.std.specs.BTreeMap.{is_at}
use Rattle.std.specs.BTreeSet.{insert_key}
use Rattle.std.specs.Set.{remove_key}
use Rattle.conda_base.specs.Texts.{is_text}
use Rattle.conda_history.specs.declared.revision.Block.{Block}
use Rattle.conda_history.specs.declared.stamp.Stamp.{Stamp}

-- ---- what is meant

-- the dist stands in the list
abbrev pub IsIn : List ℕ → List (List ℕ) → Type 0
IsIn dist [] = ⊥
IsIn dist (d ∷ ds) = (dist ≡ d) ⊎ IsIn dist ds

-- the block speaks of the dist: it names it, or is the whole set
abbrev pub SpeaksOf : Block → List ℕ → Type 0
SpeaksOf block dist = (block.whole ≡ true) ⊎ IsIn dist block.removed ⊎ IsIn dist block.added

-- the blocks leave the dist: the last block that speaks of it adds it
abbrev pub IsLeft : List Block → List ℕ → Type 0
IsLeft blocks dist =
    (before : List Block) × (block : Block) × (after : List Block)
    × (blocks ≡ before ++ block ∷ after) × IsIn dist block.added × AllByRecursion (λ b. ¬ SpeaksOf b dist) after

-- ---- the same as a function

-- an ascending list with dists put in, each at its place unless it's there
abbrev pub with_all : List (List ℕ) → List (List ℕ) → List (List ℕ)
with_all set [] = set
with_all set (d ∷ ds) = with_all (insert_key (slice_cmp nat_cmp) set d) ds

-- an ascending list with dists taken out
abbrev pub without_all : List (List ℕ) → List (List ℕ) → List (List ℕ)
without_all set [] = set
without_all set (d ∷ ds) = without_all (remove_key (is_at (slice_cmp nat_cmp d)) set) ds

-- what a block leaves of the set before it
abbrev pub kept_by : Block → List (List ℕ) → List (List ℕ)
kept_by block set = if block.whole then [] else without_all set block.removed

-- the set after a block
abbrev pub set_with : List (List ℕ) → Block → List (List ℕ)
set_with set block = with_all (kept_by block set) block.added

-- the set after the blocks, from the set before them
unfoldable pub set_after : List (List ℕ) → List Block → List (List ℕ)
set_after set [] = set
set_after set (block ∷ blocks) = set_after (set_with set block) blocks

-- the dists that the blocks leave, ascending
abbrev pub set_of : List Block → List (List ℕ)
set_of blocks = set_after [] blocks

-- ---- what each block changes

-- the dist stands in the list, as a test
abbrev pub holds : List (List ℕ) → List ℕ → Bool
holds set dist = list_any (is_text dist) set

-- the dists of a list that don't stand in another
abbrev pub missing_from : List (List ℕ) → List (List ℕ) → List (List ℕ)
missing_from other set = filter (λ dist. not (holds other dist)) set

-- what really left the set and joined it from one moment to the next
abbrev pub change_of : Stamp → List (List ℕ) → List (List ℕ) → Block
change_of stamp before after =
    record { stamp = stamp; removed = missing_from after before; added = missing_from before after; whole = false }

-- what each block takes out of the set before it and brings into it
unfoldable pub changes_after : List (List ℕ) → List Block → List Block
changes_after set [] = []
changes_after set (block ∷ blocks) =
    change_of block.stamp set (set_with set block) ∷ changes_after (set_with set block) blocks

abbrev pub changes_of : List Block → List Block
changes_of blocks = changes_after [] blocks

-- ---- the same by the dists that a block names

abbrev pub is_chosen : Bool → Bool → Bool
is_chosen held b = if held then b else not b

-- the dists of a list that the set holds, or those that it doesn't hold
abbrev pub chosen : Bool → List (List ℕ) → List (List ℕ) → List (List ℕ)
chosen held set dists = filter (λ dist. is_chosen held (holds set dist)) dists

-- the dists of the set that the block takes out, unless it adds them
abbrev pub leaving : List (List ℕ) → Block → List (List ℕ)
leaving set block = if block.whole then set else with_all [] (chosen true set block.removed)

-- what is left of the set where a whole block takes all out
abbrev pub staying : List (List ℕ) → Block → List (List ℕ)
staying set block = if block.whole then [] else set

-- an ascending list with a dist put in, if it is wanted
abbrev pub put_if : Bool → List ℕ → List (List ℕ) → List (List ℕ)
put_if wanted dist set = if wanted then insert_key (slice_cmp nat_cmp) set dist else set

-- a list with a dist at its end, if it is wanted
abbrev pub push_if : Bool → List ℕ → List (List ℕ) → List (List ℕ)
push_if wanted dist rows = if wanted then rows ++ dist ∷ [] else rows
