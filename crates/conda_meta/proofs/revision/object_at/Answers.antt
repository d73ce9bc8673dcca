use Rattle.std.specs.Option.{ok_or}
use Rattle.std.proofs.Common.{ap, sym}
use Rattle.serde_json.specs.View.{view}
use Rattle.conda_json.specs.Json.{inner_at}
use Rattle.conda_json.specs.Shown.{present}
use Rattle.conda_meta.proofs.revision.object_at.Goals as goal

pub returns : goal.returns
returns c =
    sym (ap (λ o. ok_or o c.args.field) (present (inner_at (view c.args.value.now) c.args.name.now) c.args.name.now _ c.in-Ok.ensures))
