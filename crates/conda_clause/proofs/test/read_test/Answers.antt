use Rattle.std.proofs.Common.{ap, sym, ◌∙◌}
use Rattle.std.proofs.lemmas.Result.{IfOk-weaker}
use Rattle.conda_clause.specs.Tests.{version_text}
use Rattle.conda_clause.proofs.TestLemmas.{test_found}
use Rattle.conda_clause.proofs.test.read_test.Goals as goal

pub returns-in-Some : goal.returns-in-Some
returns-in-Some c =
    let found = sym (ap version_text c.without_star.ensures) ∙ sym c.in_ok-version.ensures ∙ c.in-Some.is in
    let whole =
    test_found c.args.text.now c.sign_of-sign.result c.sign_len.result c.split_at.result.1.now c.ends_with.result c.in-Some.version
    c.sign_of-sign.ensures.sign c.sign_len.ensures c.split_at.ensures.back (sym c.if-is_any.ensures) c.ends_with.ensures.ends found in
    IfOk-weaker c.test_with.result _ _ (λ t e. e ∙ whole) c.test_with.ensures
