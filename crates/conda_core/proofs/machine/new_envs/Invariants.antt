use Rattle.std.proofs.Common.{◌≡◌, replicate}
use Rattle.conda_core.specs.Env.{new_env}
use Rattle.conda_core.proofs.machine.new_envs.Given as goal

abbrev pub invariant-loop : goal.invariant-loop
invariant-loop l = l.envs.items ≡ replicate l.counter new_env
