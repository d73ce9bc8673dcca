use Rattle.std.proofs.Common.{◌≡◌, ◌+◌, ◌∙◌, ℕ, List, Option, None, Some, ap, length}
use Rattle.std.specs.Option.{option_map_or}
use Rattle.conda_spec.specs.Cuts.{cut_colons}
use Rattle.conda_spec.proofs.CutLemmas.{colons_are}
use Rattle.conda_requests.specs.Words as word_specs
use Rattle.conda_requests.proofs.reading.name_place.Goals as goal

place : Option (List ℕ × List ℕ) → ℕ
place cut = option_map_or (λ halves. length halves.0 + 2) cut 0

pub returns-in-Some : goal.returns-in-Some
unfolding place
returns-in-Some c =
    let cut : Some (c.in-Some.channel.now, c.in-Some.field-0-1.now) ≡ cut_colons c.trimmed.result.now
    = colons_are c.trimmed.result.now (Some (c.in-Some.channel, c.in-Some.field-0-1)) c.in-Some.ensures.cases in
    ap place cut ∙ ap word_specs.name_place c.trimmed.ensures

pub returns-in-None : goal.returns-in-None
unfolding place
returns-in-None c =
    let cut : None ≡ cut_colons c.trimmed.result.now = colons_are c.trimmed.result.now None c.in-None.ensures.cases in
    ap place cut ∙ ap word_specs.name_place c.trimmed.ensures
