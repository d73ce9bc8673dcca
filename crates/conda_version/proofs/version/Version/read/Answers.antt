use Rattle.std.proofs.Common.{◌≡◌, List, ℕ, ap, sym, ◌∙◌}
use Rattle.conda_version.specs.Grammar.{fault, plain_meaning}
use Rattle.conda_version.specs.Order.{epoch_and_main}
use Rattle.conda_version.specs.Text.{plain, trimmed}
use Rattle.conda_version.proofs.TextLemmas.{trimmed_twice}
use Rattle.conda_version.proofs.version.Version.read.Goals as goal

pub invariant_of-result : goal.invariant_of-result
invariant_of-result c =
    let text : List ℕ = c.in_ok-text.text in
    let same : c.trimmed-text.result.now ≡ text = sym c.in_ok-text.ensures in
    let bare : trimmed text ≡ text =
    ap trimmed (sym same ∙ c.trimmed-text.ensures) ∙ trimmed_twice c.args.text.now ∙ sym c.trimmed-text.ensures ∙ same in
    let lower : c.as_slice.result.now ≡ plain text =
    c.as_slice.ensures.value ∙ c.in_ok-plain.ensures ∙ ap plain (c.as_bytes.ensures.value ∙ same) in (
      ap fault (sym lower) ∙ c.in_ok-parts.ensures.good,
      bare,
      c.in_ok-parts.ensures.main ∙ ap (λ t. epoch_and_main (plain_meaning t)) lower,
      c.in_ok-parts.ensures.local ∙ ap (λ t. (plain_meaning t).local) lower,
    )
