use Rattle.std.proofs.Common.{◌≡◌, ◌+◌, ℕ, List, ap, subst, ◌∙◌}
use Rattle.conda_clause.specs.Faults.{place_of}
use Rattle.conda_clause.specs.Kept.{kept}
use Rattle.conda_base.specs.Texts.{begins_with}
use Rattle.conda_base.specs.Reads.{Gives}
use Rattle.conda_clause.specs.Faults.{spec_fault_of}
use Rattle.conda_spec.specs.Reading.{SpecRead}
use Rattle.conda_spec.specs.Good.{stood}
use Rattle.conda_spec.specs.Reading.{VersionAndBuild, followed_read, wanted_read}
use Rattle.conda_spec.proofs.follow.followed.Goals as goal

pub returns-clause-read : goal.returns-clause-read
unfolding followed_read
returns-clause-read c =
    let text : List ℕ = c.args.text.now in
    let places : ℕ → ℕ = stood c.in_ok-stayed.stayed.places in
    let whole : ℕ → ℕ = λ i. c.args.at + place_of text i in
    let same : wanted_read places c.begins_with.result c.as_str.result.now ≡ wanted_read whole (begins_with 32 text) (kept text) =
    ap (λ p. wanted_read p c.begins_with.result c.as_str.result.now) c.in_ok-stayed.ensures.places
    ∙ ap (λ b. wanted_read whole b c.as_str.result.now) c.begins_with.ensures
    ∙ ap (wanted_read whole (begins_with 32 text)) (c.as_str.ensures ∙ c.in_ok-stayed.ensures.text)
    in
    let P : SpecRead VersionAndBuild → Type 0 = Gives spec_fault_of c.wanted.result in
    subst P same c.wanted.ensures.read
