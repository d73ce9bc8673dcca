use Rattle.std.proofs.Common.{◌≡◌, ◌++◌, [], ◌∷◌, ◌+◌, ap, sym, ◌∙◌, subst}
use Rattle.std.proofs.lemmas.Bool.{false≢true}
use Rattle.std.specs.Prelude.{option_copied}
use Rattle.conda_meta.specs.Folds.{last_of}
use Rattle.conda_linking.specs.Linking.{IsToLink}
use Rattle.conda_linking.proofs.StepLemmas.{AreLinked, all_linked, one_linked, one_not_linked}
use Rattle.conda_linking.proofs.linking.linked.Goals as goal
use Rattle.conda_linking.proofs.linking.linked.Goals.{then-is_to_link+in_ok-copy+in_ok-push, else-is_to_link}

pub loop-one-preserved : goal.loop-one-preserved
loop-one-preserved c =
    let had : option_copied c.copied-had.result ≡ last_of c.one-item.result.rec.dist c.args.now.now =
    ap option_copied (c.copied-had.ensures ∙ c.get.ensures.value) ∙ c.in_ok-have.ensures c.text.result.now
    ∙ ap (λ d. last_of d c.args.now.now) c.text.ensures.same in
    let is = c.is_to_link.ensures c.args.now.now c.args.target.now c.requires.now had c.has_new_python-new_python.ensures in
    elim c.if-is_to_link.branch [
      | then-is_to_link+in_ok-copy+in_ok-push w ↦
          subst (AreLinked (IsToLink (option_copied c.args.kept) c.args.now.now c.args.target.now) c.args.target.now
          (c.loop-one.one-index + 1))
          (sym (w.linked-is ∙ w.in_ok-push.ensures.ok ∙ ap (λ x. c.loop-one.linked ++ x ∷ []) w.in_ok-copy.ensures))
          (one_linked (IsToLink (option_copied c.args.kept) c.args.now.now c.args.target.now) c.args.target.now
          c.loop-one.one-index c.loop-one.linked
          c.one-item.result c.requires.target c.loop-one-test.true c.one-item.is c.loop-one.invariant (is.0 w.if-is_to_link.true))
      | else-is_to_link w ↦
          subst (AreLinked (IsToLink (option_copied c.args.kept) c.args.now.now c.args.target.now) c.args.target.now
          (c.loop-one.one-index + 1))
          (sym w.linked-is)
          (one_not_linked (IsToLink (option_copied c.args.kept) c.args.now.now c.args.target.now) c.args.target.now
          c.loop-one.one-index c.loop-one.linked
          c.one-item.result c.loop-one-test.true c.one-item.is c.loop-one.invariant (λ p. false≢true (sym w.if-is_to_link.false ∙ is.1 p)))
    ]

pub returns-clause-linked : goal.returns-clause-linked
returns-clause-linked c =
    all_linked (IsToLink (option_copied c.args.kept) c.args.now.now c.args.target.now) c.args.target.now
    c.loop-one.one-index c.loop-one.linked
    c.loop-one-test.false c.loop-one.invariant
