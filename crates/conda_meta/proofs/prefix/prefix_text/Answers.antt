use Rattle.std.proofs.Common.{◌≡◌, ◌≤◌, Some, false, sym, ap, ◌∙◌, subst}
use Rattle.serde_json.specs.Data.{Data, depth}
use Rattle.serde_json.specs.Written.{compact_text, has_float}
use Rattle.conda_meta.proofs.WriteLemmas.{Known, prefix_back, prefix_low, prefix_whole}
use Rattle.conda_meta.proofs.prefix.prefix_text.Goals as goal

pub returns-in-Ok-clause-text : goal.returns-in-Ok-clause-text
returns-in-Ok-clause-text c =
    let value = c.in_ok-value.ensures.value in
    c.in-Ok.ensures.text (subst (λ (d : Data). has_float d ≡ false) (sym value) (prefix_whole c.args.linked.now)) ∙ ap compact_text value

pub returns-in-Ok-clause-reads_back : goal.returns-in-Ok-clause-reads_back
returns-in-Ok-clause-reads_back c = λ is.
    let known : Known = record {
      only = c.grammar_laws.ensures.only;
      record_is = c.record_laws.ensures.read;
      revision = c.meta_laws.ensures.revision;
      prefix = c.meta_laws.ensures.prefix;
    } in
    let value = c.in_ok-value.ensures.value in
    prefix_back known c.in-Ok.text.items c.args.linked.now is c.in_ok-value.ensures.goods c.in_ok-value.ensures.depends c.in_ok-value.ensures.constrains
    (c.in-Ok.ensures.reads_back (subst (λ (d : Data). depth d ≤ 127) (sym value) (prefix_low c.args.linked.now)) ∙ ap Some value)
