use Rattle.std.proofs.Common.{lit<, sym, ◌∙◌}
use Rattle.std.proofs.lemmas.Str.Pattern.{strip_prefix_char}
use Rattle.conda_version.proofs.TextLemmas.{front_stops}
use Rattle.conda_version.proofs.text.trimmed_start.Goals as goal

pub returns : goal.returns
returns c =
    let none = strip_prefix_char 32 c.loop-rest.left.now c.strip_prefix.result c.strip_prefix.ensures.cases (lit< tt) in
    let stops = rw c.in_default.is at none in
    sym (front_stops c.loop-rest.left.now stops) ∙ c.loop-rest.invariant.1
