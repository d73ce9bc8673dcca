use Rattle.std.proofs.Common.{◌≡◌, drop}
use Rattle.std.specs.List.{list_any}
use Rattle.conda_goods.specs.Claims.{same_owner}
use Rattle.rows_environments.proofs.goods.has_owner.Given as goal

abbrev pub invariant-loop-part : goal.invariant-loop-part
invariant-loop-part l = list_any (λ part. same_owner part.owner l.owner) (drop l.part-index l.parts) ≡ list_any (λ part. same_owner part.owner l.owner) l.parts
