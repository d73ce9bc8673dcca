use Rattle.std.proofs.Common.{append_assoc, subst}
use Rattle.conda_index.specs.Gather.{IsGathered}
use Rattle.conda_index.proofs.gather.Gathered.take_part.Goals as goal

pub loop-pkg-preserved : goal.loop-pkg-preserved
loop-pkg-preserved c =
    λ before g. subst (λ l. IsGathered l c.take.new.self) (append_assoc before _ _) (c.in_ok-take.ensures _ (c.loop-pkg.invariant before g))
