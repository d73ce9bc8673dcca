use Rattle.std.proofs.Common.{◌≡◌, ℕ, ap, sym, ◌∙◌, Some}
use Rattle.conda_version.specs.declared.error.VersionWhy.{VersionWhy}
use Rattle.conda_version.specs.Grammar.{offence}
use Rattle.conda_version.specs.Text.{trimmed}
use Rattle.conda_clause.proofs.FormLemmas.{chars_bare}
use Rattle.conda_clause.proofs.TestLemmas.{chars_utf8, other_chars, unless_err, unless_ok, version_is, version_is_none}
use Rattle.conda_clause.proofs.test.version_of.Goals as goal

pub returns-then-not-has_version_chars : goal.returns-then-not-has_version_chars
returns-then-not-has_version_chars c = sym (other_chars c.args.text.now (sym c.if-not-has_version_chars.ensures))

pub returns-in_default : goal.returns-in_default
returns-in_default c = absurd (c.in_default.ensures.cases.0 (chars_utf8 c.args.text.now (sym c.if-not-has_version_chars.ensures)))

pub returns-in-Ok-read : goal.returns-in-Ok-read
returns-in-Ok-read c =
    let text = c.args.text.now in
    let bare : trimmed c.in-Ok.text.now ≡ text =
    ap trimmed c.in-Ok.ensures.cases.0 ∙ chars_bare c.trimmed_law.ensures.bare text (sym c.if-not-has_version_chars.ensures) in
    let found = unless_ok (offence (trimmed c.in-Ok.text.now)) (trimmed c.in-Ok.text.now) c.in-Ok-read.version c.in-Ok-read.ensures in
    ap Some (found.1 ∙ bare) ∙ sym (version_is text (ap offence (sym bare) ∙ found.0))

pub returns-in-Err-BadVersion : goal.returns-in-Err-BadVersion
returns-in-Err-BadVersion c =
    let text = c.args.text.now in
    let bare : trimmed c.in-Ok.text.now ≡ text =
    ap trimmed c.in-Ok.ensures.cases.0 ∙ chars_bare c.trimmed_law.ensures.bare text (sym c.if-not-has_version_chars.ensures) in
    let cause = rw c.in-Err-BadVersion.field-0-is at c.in-Err-BadVersion.ensures in
    let fault : ℕ × VersionWhy = (c.in-Err-BadVersion.field-0-0, c.in-Err-BadVersion.field-0-1) in
    sym (version_is_none text fault
    (ap offence (sym bare) ∙ unless_err (offence (trimmed c.in-Ok.text.now)) (trimmed c.in-Ok.text.now) fault cause))
