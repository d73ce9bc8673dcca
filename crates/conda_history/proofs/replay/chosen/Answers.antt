use Rattle.std.proofs.Common.{◌<◌, length, ap, ◌∙◌, arith}
use Rattle.conda_history.specs.Sets.{is_chosen}
use Rattle.conda_history.proofs.ChangeLemmas.{chosen_more}
use Rattle.conda_history.proofs.replay.chosen.Goals as goal

pub loop-dist-preserved : goal.loop-dist-preserved
loop-dist-preserved c =
    let short : c.loop-dist.dist-index < length c.args.dists.now = omega arith in
    chosen_more c.args.held c.args.set.now.keys c.args.dists.now c.loop-dist.dist-index c.dist-item.result c.loop-dist.made.keys
    c.put_if.new.set.keys c.is_chosen-wanted.result c.dist-item.is short
    (c.is_chosen-wanted.ensures ∙ ap (λ b. is_chosen c.args.held b) c.holds.ensures) c.in_ok-put_if.ensures
    ∙ c.loop-dist.invariant
