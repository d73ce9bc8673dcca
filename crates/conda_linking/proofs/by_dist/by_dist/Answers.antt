use Rattle.std.proofs.Common.{refl}
use Rattle.conda_linking.proofs.StepLemmas.{one_held}
use Rattle.conda_linking.proofs.by_dist.by_dist.Goals as goal

pub loop-one-preserved : goal.loop-one-preserved
loop-one-preserved c =
    one_held c.args.packages.now c.loop-one.one-index c.one-item.result c.text.result.now _ c.loop-one.found c.insert.new.self
    c.loop-one-test.true c.one-item.is c.text.ensures.same refl c.in_ok-insert.ensures.updates c.loop-one.invariant
