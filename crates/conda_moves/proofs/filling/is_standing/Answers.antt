use Rattle.std.proofs.Common.{◌↔◌, ap, sym, subst, ◌∙◌}
use Rattle.std.specs.Prelude.{IsTrue, option_copied}
use Rattle.conda_moves.specs.Filling.{IsStanding}
use Rattle.conda_moves.proofs.MoveLemmas.{going_stands, other_stands}
use Rattle.conda_moves.proofs.filling.is_standing.Goals as goal

pub returns-in-Some : goal.returns-in-Some
returns-in-Some c = λ altered gone files comes are.
    going_stands c.args.others.now altered gone files comes c.args.moves.now c.args.path.now c.in-Some.going.now are
    (sym c.get.ensures.value ∙ ap option_copied c.in-Some.is)

pub returns-in-None : goal.returns-in-None
returns-in-None c = λ altered gone files comes are.
    subst (λ b. IsTrue b ↔ IsStanding c.args.others.now altered gone files c.args.path.now) (sym c.contains.ensures)
    (other_stands c.args.others.now altered gone files comes c.args.moves.now c.args.path.now are
    (sym c.get.ensures.value ∙ ap option_copied c.in-None.is))
