use Rattle.std.proofs.Common.{◌≡◌, ◌+◌, ℕ, List, ap, subst, ◌∙◌}
use Rattle.conda_clause.specs.Faults.{place_of}
use Rattle.conda_clause.specs.Kept.{kept}
use Rattle.conda_base.specs.Reads.{Gives}
use Rattle.conda_clause.specs.Faults.{spec_fault_of}
use Rattle.conda_spec.specs.Reading.{SpecRead}
use Rattle.conda_spec.specs.Good.{stood}
use Rattle.conda_spec.specs.Reading.{clause_at, clause_value}
use Rattle.conda_spec.proofs.items.clause_value.Goals as goal

pub returns-clause-read : goal.returns-clause-read
unfolding clause_value
returns-clause-read c =
    let text : List ℕ = c.args.text.now in
    let places : ℕ → ℕ = stood c.in_ok-stayed.stayed.places in
    let whole : ℕ → ℕ = λ i. c.args.at + place_of text i in
    let same : clause_at places 0 0 c.as_str.result.now ≡ clause_at whole 0 0 (kept text) =
    ap (λ p. clause_at p 0 0 c.as_str.result.now) c.in_ok-stayed.ensures.places
    ∙ ap (clause_at whole 0 0) (c.as_str.ensures ∙ c.in_ok-stayed.ensures.text)
    in
    let P : SpecRead (List ℕ) → Type 0 = Gives spec_fault_of c.clause_at.result in
    subst P same c.clause_at.ensures.read
