use Rattle.std.proofs.Common.{◌||◌, is_some, ap, ◌∙◌}
use Rattle.std.specs.Ordering.{nat_cmp}
use Rattle.std.specs.Cmp.Lexicographic.{slice_cmp}
use Rattle.std.specs.BTreeMap.{is_at}
use Rattle.std.specs.Map.{lookup}
use Rattle.std.specs.Str.{bytes_eq}
use Rattle.conda_device.specs.Keys.{same_test}
use Rattle.conda_real.specs.Lent.{is_lent}
use Rattle.conda_real.proofs.LentLemmas.{noted}
use Rattle.conda_real.proofs.host.note.Goals as goal

pub returns-clause-ok : goal.returns-clause-ok
returns-clause-ok c = λ other.
    ap is_some (c.in_ok-insert.ensures.updates.0 other)
    ∙ noted (is_at (slice_cmp nat_cmp c.in_ok-copy.field-0) other) c.args.lanes (lookup (is_at (slice_cmp nat_cmp other)) c.args.lent.now.entries)
    ∙ ap (λ b. b || is_lent c.args.lent.now.entries other) (same_test c.in_ok-copy.field-0 other ∙ ap (bytes_eq other) c.in_ok-copy.ensures)
