use Rattle.std.proofs.Common.{◌≡◌, IfOk, sym, ap, ◌∙◌, subst}
use Rattle.std.specs.Prelude.{option_copied}
use Rattle.conda_meta.proofs.FoldLemmas.{last_requested}
use Rattle.conda_meta.proofs.folding.requested_last.Goals as goal

pub returns-in-Some : goal.returns-in-Some
returns-in-Some c =
    subst (λ specs. IfOk c.copy.result (λ made. made ≡ specs))
    (sym (last_requested c.args.revs.now c.in-Some.revision.now (sym c.last.ensures.value ∙ ap option_copied c.in-Some.is)))
    c.copy.ensures
