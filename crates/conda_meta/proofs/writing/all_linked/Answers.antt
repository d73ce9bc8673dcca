use Rattle.std.proofs.Common.{◌<◌, length, arith}
use Rattle.conda_meta.specs.Back.{LinkedBack}
use Rattle.conda_meta.specs.Texts.{linked_data}
use Rattle.conda_meta.proofs.WriteLemmas.{all_more, values_more}
use Rattle.conda_meta.proofs.writing.all_linked.Goals as goal

pub loop-one-preserved : goal.loop-one-preserved
loop-one-preserved c =
    let short : c.loop-one.one-index < length c.args.linked.now = omega arith in (
      values_more linked_data c.args.linked.now c.loop-one.one-index c.one-item.result c.loop-one.list.items c.push.new.self.items
          c.in_ok-linked_value.field-0 short c.one-item.is c.in_ok-push.ensures.items c.loop-one.invariant.0 c.in_ok-linked_value.ensures.value,
      all_more LinkedBack c.args.linked.now c.loop-one.one-index c.one-item.result short c.one-item.is c.loop-one.invariant.1
          c.in_ok-linked_value.ensures.again,
    )
