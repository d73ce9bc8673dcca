use Rattle.std.proofs.Common.{◌≡◌, ◌≤◌, Some, false, sym, ap, ◌∙◌, subst}
use Rattle.serde_json.specs.Data.{Data, depth}
use Rattle.serde_json.specs.Written.{compact_text, has_float}
use Rattle.conda_meta.proofs.WriteLemmas.{Known, revision_back, revision_low, revision_whole}
use Rattle.conda_meta.proofs.revision.Revision.text.Goals as goal

pub returns-in-Ok-clause-text : goal.returns-in-Ok-clause-text
returns-in-Ok-clause-text c =
    let value = c.in_ok-value.ensures.value in
    c.in-Ok.ensures.text (subst (λ (d : Data). has_float d ≡ false) (sym value) (revision_whole c.args.self.now)) ∙ ap compact_text value

pub returns-in-Ok-clause-reads_back : goal.returns-in-Ok-clause-reads_back
returns-in-Ok-clause-reads_back c = λ good.
    let known : Known = record {
      only = c.grammar_laws.ensures.only;
      record_is = c.record_laws.ensures.read;
      revision = c.meta_laws.ensures.revision;
      prefix = c.meta_laws.ensures.prefix;
    } in
    let value = c.in_ok-value.ensures.value in
    revision_back known c.in-Ok.text.items c.args.self.now good c.in_ok-value.ensures.linked c.in_ok-value.ensures.requested c.in_ok-value.ensures.unlinked
    (c.in-Ok.ensures.reads_back (subst (λ (d : Data). depth d ≤ 127) (sym value) (revision_low c.args.self.now)) ∙ ap Some value)
