use Rattle.std.proofs.Common.{lit<, sym, ap, reverse, ◌∙◌}
use Rattle.std.proofs.lemmas.List.{reverse-reverse}
use Rattle.std.proofs.lemmas.Str.Pattern.{strip_suffix_char}
use Rattle.conda_version.proofs.TextLemmas.{back_stops}
use Rattle.conda_version.proofs.text.trimmed.Goals as goal

pub returns : goal.returns
returns c =
    let none = strip_suffix_char 32 c.loop-rest.left.now c.strip_suffix.result c.strip_suffix.ensures.cases (lit< tt) in
    let stops = rw c.in_default.is at none in
    sym (reverse-reverse c.loop-rest.left.now) ∙ ap reverse (sym (back_stops c.loop-rest.left.now stops) ∙ c.loop-rest.invariant.1)
