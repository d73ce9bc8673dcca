use Rattle.std.specs.Prelude.{◌∷◌, ◌++◌, Some}
use Rattle.std.proofs.Common.{ap, sym, ◌∙◌}
use Rattle.std.proofs.lemmas.List.{append_cancel_right}
use Rattle.conda_base.specs.Signs.{dot}
use Rattle.conda_link.proofs.LinkLemmas.{cut_twice, two_alone, two_of_more}
use Rattle.conda_link.proofs.placing.first_parts.Goals as goal

pub before-requires : goal.before-requires
before-requires c = (
  c.in_ok-first.first.now ++ dot ∷ c.in-Some.second.now,
  cut_twice c.args.text.now c.in_ok-first.first.now c.in_ok-first.rest.now c.in-Some.second.now c.in-Some.behind.now
      ((c.cut_laws.ensures.first dot _ _ _).0 c.in_ok-first.ensures.cut).0 ((c.cut_laws.ensures.first dot _ _ _).0 c.in-Some.ensures.cut).0,
)

pub returns-then-is_digits-2 : goal.returns-then-is_digits-2
returns-then-is_digits-2 c =
    two_of_more c.args.text.now c.in_ok-first.first.now c.in_ok-first.rest.now c.in-Some.second.now c.in-Some.behind.now
    c.in_ok-first.ensures.cut c.in-Some.ensures.cut (sym c.is_digits.ensures ∙ c.if-is_digits.true) (sym c.is_digits-then-is_digits.ensures ∙ c.if-is_digits-2.true)
    ∙ ap Some (append_cancel_right _ _ (dot ∷ c.in-Some.behind.now)
    (sym (cut_twice c.args.text.now c.in_ok-first.first.now c.in_ok-first.rest.now c.in-Some.second.now c.in-Some.behind.now
    ((c.cut_laws.ensures.first dot _ _ _).0 c.in_ok-first.ensures.cut).0 ((c.cut_laws.ensures.first dot _ _ _).0 c.in-Some.ensures.cut).0)
    ∙ c.before-then-is_digits-2.ensures))

pub returns-then-is_digits-4 : goal.returns-then-is_digits-4
returns-then-is_digits-4 c =
    two_alone c.args.text.now c.in_ok-first.first.now c.in_ok-first.rest.now c.in_ok-first.ensures.cut
    c.in-None.ensures.cut (sym c.is_digits-in-None.ensures ∙ c.if-is_digits-3.true) (sym c.is_digits-then-is_digits-3.ensures ∙ c.if-is_digits-4.true)
    ∙ ap Some (sym ((c.cut_laws.ensures.first dot _ _ _).0 c.in_ok-first.ensures.cut).0)
