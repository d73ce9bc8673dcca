-- The text of a history, as this project writes it; its lines are those of conda's history.py.
use Rattle.std.specs.Prelude.{ℕ, if◌then◌else◌, List, [], ◌∷◌, ◌++◌, IsUtf8}
use Rattle.std.specs.List.{AllByRecursion, flat_map}
use Rattle.conda_base.specs.Signs.{dash, newline, plus}
use Rattle.conda_history.specs.declared.revision.Block.{Block}
use Rattle.conda_history.specs.Stamps.{header_text}

-- a line with its newline
abbrev pub ended : List ℕ → List ℕ
ended line = line ++ newline ∷ []

-- `-dist` and `+dist`
abbrev pub removed_line : List ℕ → List ℕ
removed_line dist = dash ∷ ended dist

abbrev pub added_line : List ℕ → List ℕ
added_line dist = plus ∷ ended dist

-- the removed dists, then the added ones; the dists of a whole set have no sign
abbrev pub dists_text : Block → List ℕ
dists_text b =
    if b.whole then flat_map ended b.added
    else flat_map removed_line b.removed ++ flat_map added_line b.added

-- a header line, and the dists
abbrev pub block_text : Block → List ℕ
block_text b = ended (header_text b.stamp) ++ dists_text b

abbrev pub history_text : List Block → List ℕ
history_text blocks = flat_map block_text blocks

-- the dists that the text of a block shows
abbrev pub shown : Block → List (List ℕ)
shown b = if b.whole then b.added else b.removed ++ b.added

-- each dist that the text shows is a text itself
abbrev pub AreTexts : List Block → Type 0
AreTexts blocks = AllByRecursion (λ block. AllByRecursion IsUtf8 (shown block)) blocks
