use Rattle.std.proofs.Common.{◌&&◌, not, is_some, ap, ◌∙◌}
use Rattle.std.specs.Ordering.{nat_cmp}
use Rattle.std.specs.Cmp.Lexicographic.{slice_cmp}
use Rattle.std.specs.BTreeMap.{is_at}
use Rattle.std.specs.Map.{lookup}
use Rattle.conda_device.specs.Keys.{same_test}
use Rattle.conda_real.specs.Lent.{is_lent}
use Rattle.conda_real.proofs.LentLemmas.{removed}
use Rattle.conda_real.proofs.host.forget.Goals as goal

pub returns : goal.returns
returns c = λ other.
    ap is_some (c.remove.ensures.updates.0 other)
    ∙ removed (is_at (slice_cmp nat_cmp c.args.prefix.now) other) (lookup (is_at (slice_cmp nat_cmp other)) c.args.lent.now.entries)
    ∙ ap (λ b. not b && is_lent c.args.lent.now.entries other) (same_test c.args.prefix.now other)
