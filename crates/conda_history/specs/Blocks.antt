-- The blocks of a history as a grammar, after conda's history.py: what the lines of a block mean together.
use Rattle.std.specs.Prelude.{◌≡◌, ◌≢◌, ◌↔◌, ℕ, ◌+◌, Bool, true, false, List, [], ◌∷◌, ◌++◌, length, Option, Some, None}
use Rattle.std.specs.List.{AllByRecursion, flat_map, list_all, list_any}
use Rattle.conda_base.specs.Texts.{Ascending}
use Rattle.conda_path.specs.Dists.{IsDist}
use Rattle.conda_history.specs.declared.line.Line.{Line}
use Rattle.conda_history.specs.declared.line.Line.TheVariants.{Nothing, Header, Removed, Added, Plain}
use Rattle.conda_history.specs.declared.revision.Block.{Block}
use Rattle.conda_history.specs.declared.stamp.Stamp.{Stamp}
use Rattle.conda_history.specs.Says.{AreLines, Means, lines_of}
use Rattle.conda_history.specs.Sets.{IsIn}
use Rattle.conda_history.specs.Stamps.{Exists}

-- ---- words on lines

abbrev pub says_nothing : Line → Bool
says_nothing Nothing = true
says_nothing _ = false

abbrev pub is_header : Line → Bool
is_header (Header stamp) = true
is_header _ = false

-- it names a dist behind a sign
abbrev pub is_signed : Line → Bool
is_signed (Removed dist) = true
is_signed (Added dist) = true
is_signed _ = false

-- it names a dist without a sign
abbrev pub is_plain : Line → Bool
is_plain (Plain dist) = true
is_plain _ = false

-- the dist that a line names behind a sign
abbrev pub signed_dist : Line → Option (List ℕ)
signed_dist (Removed dist) = Some dist
signed_dist (Added dist) = Some dist
signed_dist _ = None

-- the line stands among these
abbrev pub IsAmong : List Line → Line → Type 0
IsAmong lines line = (before : List Line) × (after : List Line) × (lines ≡ before ++ line ∷ after)

-- the line stands among these, and none behind it names its dist behind a sign
abbrev pub IsLast : List Line → Line → Type 0
IsLast lines line =
    (before : List Line) × (after : List Line) × (lines ≡ before ++ line ∷ after)
    × AllByRecursion (λ l. signed_dist l ≢ signed_dist line) after

-- ---- a block

-- What the lines below a header mean. Where none has a sign and one names a dist, they are the whole set. Else the
-- last line with a sign counts that names a dist, and those without a sign count for nothing.
pub record IsBlockOf (lines : List Line) (block : Block) : Type 0 where
  pub whole : (block.whole ≡ true) ↔ ((list_any is_signed lines ≡ false) × (list_any is_plain lines ≡ true))
  pub whole_removed : block.whole ≡ true → block.removed ≡ []
  pub whole_added : block.whole ≡ true → (dist : List ℕ) → IsIn dist block.added ↔ IsAmong lines (Plain dist)
  pub removed : block.whole ≡ false → (dist : List ℕ) → IsIn dist block.removed ↔ IsLast lines (Removed dist)
  pub added : block.whole ≡ false → (dist : List ℕ) → IsIn dist block.added ↔ IsLast lines (Added dist)
  pub removed_ascend : Ascending block.removed
  pub added_ascend : Ascending block.added

-- ---- a text

-- a header line, and the lines below it up to the next one
pub record Chapter : Type 0 where
  pub stamp : Stamp
  pub body : List Line

abbrev pub chapter_lines : Chapter → List Line
chapter_lines chapter = Header chapter.stamp ∷ chapter.body

pub record IsChapter (chapter : Chapter) (block : Block) : Type 0 where
  pub same_stamp : block.stamp ≡ chapter.stamp
  pub no_header : list_any is_header chapter.body ≡ false
  pub means : IsBlockOf chapter.body block

abbrev pub AreChapters : List Chapter → List Block → Type 0
AreChapters [] [] = Unit {0}
AreChapters (chapter ∷ chapters) (block ∷ blocks) = IsChapter chapter block × AreChapters chapters blocks
AreChapters [] (block ∷ blocks) = ⊥
AreChapters (chapter ∷ chapters) [] = ⊥

-- the lines are these blocks: before the first header nothing is said, and each header begins a block
pub record HaveBlocks (lines : List Line) (blocks : List Block) : Type 0 where
  pub intro : List Line
  pub chapters : List Chapter
  pub whole : lines ≡ intro ++ flat_map chapter_lines chapters
  pub nothing : list_all says_nothing intro ≡ true
  pub blocks_are : AreChapters chapters blocks

-- the bytes are a history of these blocks
pub record IsHistory (bytes : List ℕ) (blocks : List Block) : Type 0 where
  pub lines : List Line
  pub means : AreLines (lines_of bytes) lines
  pub blocks_are : HaveBlocks lines blocks

-- ---- the first bad line

-- no dist is named before the first header
abbrev pub begins_well : List Line → Bool
begins_well [] = true
begins_well (Nothing ∷ lines) = begins_well lines
begins_well (Header stamp ∷ lines) = true
begins_well _ = false

-- The line of this number, from 1, is the first that is none of a history: whatever it says, behind the lines before
-- it it names a dist before the first header; a line that isn't UTF-8 says nothing at all.
pub record IsBadAt (bytes : List ℕ) (number : ℕ) : Type 0 where
  pub before : List (List ℕ)
  pub bad : List ℕ
  pub behind : List (List ℕ)
  pub lines : List Line
  pub split : lines_of bytes ≡ before ++ bad ∷ behind
  pub place : number ≡ length before + 1
  pub means : AreLines before lines
  pub well : begins_well lines ≡ true
  pub wrong : (line : Line) → Means bad line → begins_well (lines ++ line ∷ []) ≡ false

-- ---- the blocks that a text can show

pub record IsBlock (b : Block) : Type 0 where
  pub stamp : Exists b.stamp
  pub removed : AllByRecursion IsDist b.removed
  pub added : AllByRecursion IsDist b.added
  pub removed_ascend : Ascending b.removed
  pub added_ascend : Ascending b.added
  pub apart : (dist : List ℕ) → IsIn dist b.removed → IsIn dist b.added → ⊥
  -- a block that is the whole set has a dist, and removes none
  pub whole_removed : b.whole ≡ true → b.removed ≡ []
  pub whole_added : b.whole ≡ true → b.added ≢ []
