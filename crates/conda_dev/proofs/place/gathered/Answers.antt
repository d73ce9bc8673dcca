use Rattle.std.proofs.Common.{◌+◌, drop, ap, sym, ◌∙◌}
use Rattle.std.proofs.lemmas.List.{at_drop_all, at_drop_more}
use Rattle.std.specs.Ordering.{nat_cmp}
use Rattle.std.specs.Cmp.Lexicographic.{slice_cmp}
use Rattle.std.specs.FinMap as trees
use Rattle.conda_dev.specs.Memory.{node_at, trees_of}
use Rattle.conda_dev.specs.Shares.{first_of, in_share}
use Rattle.conda_dev.proofs.GatherLemmas.{gather_step}
use Rattle.conda_dev.proofs.TreeLemmas.{share_none}
use Rattle.conda_dev.proofs.place.gathered.Goals as goal

pub loop-lane-init : goal.loop-lane-init
loop-lane-init c = λ q.
    ap (λ o. first_of o (in_share c.args.number c.args.lanes q (node_at (trees_of c.args.from.now) q)))
    (ap (λ t. trees.get t q) c.new-made.ensures ∙ trees.get-empty (slice_cmp nat_cmp) q)

pub loop-lane-preserved : goal.loop-lane-preserved
loop-lane-preserved c = λ q.
    let from = c.args.from.now in
    let later = node_at (trees_of (drop (c.loop-lane.lane-index + 1) from)) q in
    gather_step c.args.number c.args.lanes q (trees.get c.loop-lane.made q) (trees.get c.lane-item.result.tree q) later (trees.get c.add_share.new.made q) (c.in_ok-add_share.ensures.ok q)
    ∙ ap (λ o. first_of (trees.get c.loop-lane.made q) (in_share c.args.number c.args.lanes q o))
    (ap (λ lane. first_of (trees.get lane.tree q) later) c.lane-item.is ∙ sym (at_drop_more (λ lanes. node_at (trees_of lanes) q) from c.loop-lane.lane-index c.lane-item.result c.loop-lane-test.true))
    ∙ c.loop-lane.invariant q

pub returns : goal.returns
returns c = λ q.
    sym (share_none c.args.number c.args.lanes q (trees.get c.loop-lane.made q))
    ∙ ap (λ o. first_of (trees.get c.loop-lane.made q) (in_share c.args.number c.args.lanes q o)) (sym (at_drop_all (λ lanes. node_at (trees_of lanes) q) c.args.from.now c.loop-lane.lane-index c.loop-lane-test.false))
    ∙ c.loop-lane.invariant q
