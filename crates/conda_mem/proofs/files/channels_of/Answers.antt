use Rattle.std.proofs.Common.{◌∙◌}
use Rattle.conda_mem.proofs.GivenLemmas.{one_put_as}
use Rattle.conda_mem.proofs.files.channels_of.Goals as goal

pub loop-name-preserved : goal.loop-name-preserved
loop-name-preserved c =
    one_put_as _ c.args.channels.items _ c.in-Some.name _ c.in-Some.files c.in_ok-make.field-0 c.loop-name.made.entries _ c.in-Some.ensures.steps.0 c.name.view_is c.in_ok-insert.ensures.updates.0 (c.in_ok-make.ensures ∙ c.in_ok-nodes.ensures) c.loop-name.invariant

pub loop-name-preserved-in_ok-insert : goal.loop-name-preserved-in_ok-insert
loop-name-preserved-in_ok-insert c =
    one_put_as _ c.args.channels.items _ c.in-Some.name _ c.in-Some.files c.in_ok-make.field-0 c.loop-name.made.entries _ c.in-Some.ensures.steps.0 c.name.view_is c.in_ok-insert.ensures.updates.0 (c.in_ok-make.ensures ∙ c.in_ok-nodes.ensures) c.loop-name.invariant
