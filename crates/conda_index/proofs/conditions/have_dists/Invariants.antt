use Rattle.std.proofs.Common.{◌≡◌, All, take, true}
use Rattle.conda_path.specs.Dists.{is_dist}
use Rattle.conda_index.specs.Pools.{virtual_dist}
use Rattle.conda_index.proofs.conditions.have_dists.Given as goal

abbrev pub invariant-loop-virtual_package : goal.invariant-loop-virtual_package
invariant-loop-virtual_package l = All (λ v. is_dist (virtual_dist v) ≡ true) (take l.virtual_package-index l.virtuals)
