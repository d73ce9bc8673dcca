use Rattle.std.proofs.Common.{◌∙◌}
use Rattle.conda_mem.proofs.NamesLemmas.{begins_as, goes_on_as, one_more_as}
use Rattle.conda_mem.proofs.nodes.Nodes.names_in.Goals as goal

pub loop-path-init : goal.loop-path-init
loop-path-init c =
    begins_as _ _ _ _ c.self.inside.nodes.entries c.self.view_is c.new-names.ensures.items (c.into_iter-path-iterator.ensures.into_iter_gives ∙ c.iter-path-items.ensures.rest)

pub loop-path-preserved-in_ok-push : goal.loop-path-preserved-in_ok-push
loop-path-preserved-in_ok-push c =
    one_more_as _ _ _ c.in-Some.path.now c.as_str.result.now c.in-Some.field-0-1.now _ _ c.in-Some-folder_in.name.now c.in_ok-from_str.field-0 _ c.as_str.ensures c.in-Some.ensures.steps c.in-Some-folder_in.ensures.some c.in_ok-from_str.ensures c.in_ok-push.ensures.items c.loop-path.invariant

pub loop-path-preserved : goal.loop-path-preserved
loop-path-preserved c =
    goes_on_as _ _ _ c.in-Some.path.now c.as_str.result.now c.in-Some.field-0-1.now _ _ c.as_str.ensures c.in-Some.ensures.steps c.in_default.ensures.none c.loop-path.invariant
