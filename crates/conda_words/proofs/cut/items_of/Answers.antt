use Rattle.std.proofs.Common.{ap, arith, length, sym}
use Rattle.conda_words.specs.Table.{seen}
use Rattle.conda_words.proofs.ItemLemmas.{carried_end, carried_lacking, carried_none, carried_own, carried_valued}
use Rattle.conda_words.proofs.cut.items_of.Goals as goal

pub loop-word-preserved-then-ends_options : goal.loop-word-preserved-then-ends_options
loop-word-preserved-then-ends_options c = (
  carried_end _ _ (seen c.args.row) c.loop-word.plain c.loop-word.at c.loop-word.left.now c.in-Some.word.now c.in-Some.rest.now
      c.in-Some.ensures (sym c.if-ends_options.ensures) c.loop-word.invariant.0,
  omega (arith, ap length c.in-Some.ensures),
)

pub loop-word-preserved-then-not-takes_next : goal.loop-word-preserved-then-not-takes_next
loop-word-preserved-then-not-takes_next c = (
  carried_own _ c.push.new.self.items _ c.in_ok-item.item
      (seen c.args.row) c.loop-word.plain c.loop-word.at c.loop-word.left.now c.in-Some.word.now c.in-Some.rest.now c.in-Some.ensures
      (sym c.if-ends_options.ensures)
      (sym c.if-not-takes_next.ensures) c.in_ok-push.ensures.items c.in_ok-item.ensures c.loop-word.invariant.0,
  omega (arith, ap length c.in-Some.ensures),
)

pub returns-in-None : goal.returns-in-None
returns-in-None c =
    carried_lacking _ c.push-in-None.new.self.items _ c.in_ok-item-in-None.item
    (seen c.args.row) c.loop-word.plain c.loop-word.at c.loop-word.left.now c.in-Some.word.now c.in-Some.rest.now c.in-Some.ensures
    c.in-None.ensures (sym c.if-ends_options.ensures)
    (sym c.if-not-takes_next.ensures) c.in_ok-push-in-None.ensures.items c.in_ok-item-in-None.ensures c.loop-word.invariant.0

pub loop-word-preserved : goal.loop-word-preserved
loop-word-preserved c = (
  carried_valued _ c.push-in-Some-first_word.new.self.items _ c.in_ok-item-in-Some-first_word.item
      (seen c.args.row) c.loop-word.plain c.loop-word.at c.loop-word.left.now c.in-Some.word.now c.in-Some.rest.now
      c.in-Some-first_word.next.now c.in-Some-first_word.more.now c.in-Some.ensures c.in-Some-first_word.ensures
      (sym c.if-ends_options.ensures)
      (sym c.if-not-takes_next.ensures) c.in_ok-push-in-Some-first_word.ensures.items c.in_ok-item-in-Some-first_word.ensures
      c.loop-word.invariant.0,
  omega (arith, ap length c.in-Some.ensures, ap length c.in-Some-first_word.ensures),
)

pub returns : goal.returns
returns c =
    carried_none _ _ (seen c.args.row) c.loop-word.plain c.loop-word.at c.loop-word.left.now c.in_default.ensures c.loop-word.invariant.0
