use Rattle.std.proofs.Common.{◌≡◌, ◌++◌, drop, take}
use Rattle.std.specs.Prelude.{IsUtf8}
use Rattle.std.specs.List.{AllByRecursion}
use Rattle.conda_history.specs.Texts.{history_text, shown}
use Rattle.conda_history.proofs.text.text_of.Given as goal

-- the text so far, and that of what is left; the dists so far are texts
abbrev pub invariant-loop-block : goal.invariant-loop-block
invariant-loop-block l = record {
  text : l.text.items ++ history_text (drop l.block-index l.blocks) ≡ history_text l.blocks;
  texts : AllByRecursion (λ block. AllByRecursion IsUtf8 (shown block)) (take l.block-index l.blocks);
}
