use Rattle.std.proofs.Common.{◌≡◌, ◌∙◌, All, subst, refl, sym, true, true≢false}
use Rattle.std.proofs.lemmas.List.{take_all}
use Rattle.std.proofs.lemmas.List.Elements.{All-more}
use Rattle.conda_path.specs.Dists.{is_dist}
use Rattle.conda_index.specs.Pools.{virtual_dist}
use Rattle.conda_index.proofs.conditions.have_dists.Goals as goal

pub loop-virtual_package-preserved : goal.loop-virtual_package-preserved
loop-virtual_package-preserved c =
    All-more (λ v. is_dist (virtual_dist v) ≡ true) c.args.virtuals.now c.loop-virtual_package.virtual_package-index
    c.virtual_package-item.result c.loop-virtual_package-test.true c.loop-virtual_package.invariant
    (subst (λ v. is_dist (virtual_dist v) ≡ true) c.virtual_package-item.is
    (sym c.in_ok-has_dist.ensures ∙ c.if-not-branch.false))

pub returns-then-not-branch : goal.returns-then-not-branch
returns-then-not-branch c = (
  λ h. absurd (true≢false (sym h)),
  λ all. absurd (true≢false (sym (subst (λ v. is_dist (virtual_dist v) ≡ true) (sym c.virtual_package-item.is)
      (all c.loop-virtual_package.virtual_package-index c.virtual_package-item.result c.loop-virtual_package-test.true))
      ∙ sym c.in_ok-has_dist.ensures ∙ c.if-not-branch.true)),
)

pub returns : goal.returns
returns c = (
  λ _. subst (All (λ v. is_dist (virtual_dist v) ≡ true))
      (take_all c.loop-virtual_package.virtual_package-index c.args.virtuals.now c.loop-virtual_package-test.false)
      c.loop-virtual_package.invariant,
  λ _. refl,
)
