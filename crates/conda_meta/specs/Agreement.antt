-- A revision and its block of the history. This project's own.
use Rattle.std.specs.Prelude.{◌≡◌, ℕ, Bool, false, ◌&&◌, not, List, filter}
use Rattle.conda_history.specs.Sets.{holds}
use Rattle.conda_history.specs.declared.revision.Block.{Block}
use Rattle.conda_meta.specs.Reading.{dists_of}
use Rattle.conda_meta.specs.declared.revision.Revision.{Revision}

-- a linked dist joins the set before the revision, unless it is in it and isn't unlinked as well
abbrev pub joins : (List ℕ → Bool) → List (List ℕ) → List ℕ → Bool
joins is_in unlinked dist = not (is_in dist && not (holds unlinked dist))

-- The dists that a revision brings into the set before it: those of `linked` that aren't in it, and those that it unlinks as well.
abbrev pub joining : (List ℕ → Bool) → Revision → List (List ℕ)
joining is_in revision = filter (joins is_in revision.unlinked) (dists_of revision.linked)

-- The block says of the set before it what the revision says: what leaves it, and what joins it. A dist that the revision both unlinks
-- and links would have to stand in both lists of the block, which are apart.
pub record Agrees (set : List (List ℕ)) (block : Block) (revision : Revision) : Type 0 where
  pub signed : block.whole ≡ false
  pub removed : block.removed ≡ revision.unlinked
  pub added : block.added ≡ joining (holds set) revision
