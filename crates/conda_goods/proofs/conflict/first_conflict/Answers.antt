use Rattle.std.proofs.Common.{◌≡◌, Some, None, sym, ap, ◌∙◌, subst}
use Rattle.std.specs.Prelude.{map, option_copied}
use Rattle.conda_goods.specs.Claims.{NamesFirst, claimed, claims_of, least_meeting}
use Rattle.conda_goods.proofs.Naming.{names_first, no_conflict}
use Rattle.conda_goods.proofs.conflict.first_conflict.Goals as goal

pub returns-in-Some : goal.returns-in-Some
returns-in-Some c =
    let same : map claimed c.as_slice.result.now ≡ claims_of c.args.parts.now c.args.others.now = ap (map claimed) c.as_slice.ensures.value ∙ c.in_ok-claims.ensures in
    let again : map claimed c.as_slice-in-Some.result.now ≡ claims_of c.args.parts.now c.args.others.now = ap (map claimed) c.as_slice-in-Some.ensures.value ∙ c.in_ok-claims.ensures in
    names_first c.args.parts.now c.args.others.now c.in-Some.path.now c.in_ok-clobber_at-in-Some.field-0
    (subst (λ claims. least_meeting claims claims None ≡ Some c.in-Some.path.now) same (sym c.in_ok-path.ensures ∙ ap option_copied c.in-Some.is))
    (subst (λ claims. NamesFirst claims c.in-Some.path.now c.in_ok-clobber_at-in-Some.field-0) again c.in_ok-clobber_at-in-Some.ensures)

pub returns : goal.returns
returns c =
    let same : map claimed c.as_slice.result.now ≡ claims_of c.args.parts.now c.args.others.now = ap (map claimed) c.as_slice.ensures.value ∙ c.in_ok-claims.ensures in
    no_conflict c.args.parts.now c.args.others.now
    (subst (λ claims. least_meeting claims claims None ≡ None) same (sym c.in_ok-path.ensures ∙ ap option_copied c.in-None.is))
