-- The text of a slot key. This project's own.
use Rattle.std.specs.Prelude.{ℕ, List, ◌∷◌, ◌++◌}
use Rattle.conda_base.specs.Signs.{slash}
use Rattle.conda_base.specs.Texts.{IsFreeOf}
use Rattle.conda_path.specs.declared.slot.SlotKey.{SlotKey}

-- `<channel>/<subdir>/<dist>`
abbrev pub slot_text : SlotKey → List ℕ
slot_text key = key.channel ++ slash ∷ (key.subdir ++ slash ∷ key.dist)

-- the channel and the dist hold no `/`, as a channel's name and a dist never do
pub record HasNoSlash (key : SlotKey) : Type 0 where
  pub channel : IsFreeOf slash key.channel
  pub dist : IsFreeOf slash key.dist
