use Rattle.std.proofs.Common.{◌<◌, arith, length}
use Rattle.std.specs.Prelude.{IsUtf8}
use Rattle.std.specs.List.{AllByRecursion}
use Rattle.conda_history.specs.Texts.{shown}
use Rattle.conda_history.proofs.PushLemmas.{all_more, text_more}
use Rattle.conda_history.proofs.text.text_of.Goals as goal

pub loop-block-preserved : goal.loop-block-preserved
loop-block-preserved c =
    let i = c.loop-block.block-index in
    let blocks = c.args.blocks.now in
    let short : i < length blocks = omega arith in
    record {
      text = text_more blocks i c.block-item.result _ _ _ short c.block-item.is c.loop-block.invariant.text c.in_ok-push_block.ensures.text;
      texts = all_more (λ block. AllByRecursion IsUtf8 (shown block)) blocks i c.block-item.result short c.block-item.is
          c.loop-block.invariant.texts c.in_ok-push_block.ensures.utf8;
    }
