use Rattle.std.proofs.Common.{◌≡◌, Bor, ap, refl, sym, ◌∙◌}
use Rattle.std.specs.Prelude.{is_some, option_copied, Option, None, Some}
use Rattle.conda_meta.specs.Folds.{last_of}
use Rattle.conda_meta.specs.declared.linked.Linked.{Linked}
use Rattle.conda_linking.proofs.DistLemmas.{has_dist}
use Rattle.conda_linking.proofs.unlinking.has_dist.Goals as goal

copied : (o : Option (Bor Linked)) → is_some o ≡ is_some (option_copied o)
copied None = refl
copied (Some x) = refl

pub returns : goal.returns
returns c = λ packages h.
    let e = c.contains_key.ensures ∙ copied _ ∙ ap is_some (h c.text.result.now) ∙ ap
    (λ d. is_some (last_of d packages)) c.text.ensures.same in
    (λ t. (has_dist c.args.dist.now packages).0 (sym e ∙ t), λ m. e ∙ (has_dist c.args.dist.now packages).1 m)
