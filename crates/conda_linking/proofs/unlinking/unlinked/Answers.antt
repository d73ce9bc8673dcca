use Rattle.std.proofs.Common.{◌++◌, [], ◌∷◌, ap, sym, ◌∙◌, subst, ◌+◌}
use Rattle.std.proofs.lemmas.Bool.{false≢true}
use Rattle.conda_linking.proofs.StepLemmas.{IsGone, AreUnlinked, all_unlinked, one_not_unlinked, one_unlinked}
use Rattle.conda_linking.proofs.unlinking.unlinked.Goals as goal
use Rattle.conda_linking.proofs.unlinking.unlinked.Goals.{then-not-has_dist+in_ok-copy+in_ok-push, else-not-has_dist}

pub loop-one-preserved : goal.loop-one-preserved
loop-one-preserved c =
    let stays = c.has_dist.ensures c.args.target.now c.in_ok-stay.ensures in
    elim c.if-not-has_dist.branch [
      | then-not-has_dist+in_ok-copy+in_ok-push w ↦
          subst (AreUnlinked (IsGone c.args.target.now) c.args.now.now (c.loop-one.one-index + 1))
          (sym (w.dists-is ∙ w.in_ok-push.ensures.ok ∙ ap (λ x. c.loop-one.dists ++ x ∷ []) w.in_ok-copy.ensures))
          (one_unlinked (IsGone c.args.target.now) c.args.now.now c.loop-one.one-index c.loop-one.dists c.one-item.result
          c.requires c.loop-one-test.true c.one-item.is c.loop-one.invariant (λ m. false≢true (sym w.if-not-has_dist.true ∙ stays.1 m)))
      | else-not-has_dist w ↦
          subst (AreUnlinked (IsGone c.args.target.now) c.args.now.now (c.loop-one.one-index + 1))
          (sym w.dists-is)
          (one_not_unlinked (IsGone c.args.target.now) c.args.now.now c.loop-one.one-index c.loop-one.dists c.one-item.result
          c.loop-one-test.true c.one-item.is c.loop-one.invariant (λ p. p (stays.0 w.if-not-has_dist.false)))
    ]

pub returns-clause-unlinked : goal.returns-clause-unlinked
returns-clause-unlinked c =
    all_unlinked (IsGone c.args.target.now) c.args.now.now c.loop-one.one-index c.loop-one.dists c.loop-one-test.false c.loop-one.invariant
