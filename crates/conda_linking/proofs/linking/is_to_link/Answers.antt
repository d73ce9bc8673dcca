use Rattle.std.proofs.Common.{◌↔◌, ap, refl, sym, ◌∙◌, subst, IsTrue}
use Rattle.std.proofs.lemmas.Bool.{false≢true}
use Rattle.std.proofs.lemmas.Option.{none-some, same_Some}
use Rattle.std.specs.Prelude.{not, option_copied}
use Rattle.conda_record.specs.Records.{key_of}
use Rattle.conda_meta.specs.declared.linked.Linked.{Linked}
use Rattle.conda_linking.specs.Linking.{IsToLink}
use Rattle.conda_linking.proofs.LinkLemmas.{linked_again, new_one, other_goods}
use Rattle.conda_linking.proofs.linking.is_to_link.Goals as goal

pub returns-in_default : goal.returns-in_default
returns-in_default c = λ now target a h python. (
  λ t. new_one (option_copied c.args.kept) now target c.args.one.now a
      (λ other e key. none-some other (sym (ap option_copied c.in_default.is) ∙ h ∙ e)),
  λ n. refl,
)

pub returns-then-not-is_same_key : goal.returns-then-not-is_same_key
returns-then-not-is_same_key c = λ now target a h python. (
  λ t. new_one (option_copied c.args.kept) now target c.args.one.now a (λ other e key.
      let had = same_Some c.in-Some.had.now other (sym (ap option_copied c.in-Some.is) ∙ h ∙ e) in
      false≢true (sym c.if-not-is_same_key.true ∙ c.is_same_key.ensures.1 (ap (λ (p : Linked). key_of p.rec) had ∙ key))),
  λ n. refl,
)

pub returns-in-Some-kept : goal.returns-in-Some-kept
returns-in-Some-kept c = λ now target a h python.
    subst (λ kept. IsTrue (not c.has_same_goods.result) ↔ IsToLink (option_copied kept) now target c.args.one.now) (sym c.in-Some-kept.is)
    (other_goods now c.args.one.now c.in-Some.had.now c.has_same_goods.result a (sym h ∙ ap option_copied c.in-Some.is)
    (c.is_same_key.ensures.0 c.if-not-is_same_key.false) c.has_same_goods.ensures)

pub returns-in-None : goal.returns-in-None
returns-in-None c = λ now target a h python.
    subst (λ kept. IsTrue c.is_to_link_again.result ↔ IsToLink (option_copied kept) now target c.args.one.now) (sym c.in-None.is)
    (linked_again now target c.args.one.now c.in-Some.had.now c.is_to_link_again.result c.args.new_python
    (sym h ∙ ap option_copied c.in-Some.is)
    (c.is_same_key.ensures.0 c.if-not-is_same_key.false) python c.is_to_link_again.ensures)
