use Rattle.conda_prefix.proofs.PieceLemmas.{cut_not_plain, plain_stays}
use Rattle.conda_prefix.proofs.text.replace_text.Goals as goal

pub returns-in_err-made-in-Some-clause-kept : goal.returns-in_err-made-in-Some-clause-kept
returns-in_err-made-in-Some-clause-kept c =
    λ plain. absurd (cut_not_plain c.args.placeholder.now c.args.bytes.items _ _ c.requires (rw (c.new-finder.ensures, c.as_slice.ensures.value) at c.in-Some.ensures) plain)

pub returns-in_err-append_replaced-in-Some-clause-kept : goal.returns-in_err-append_replaced-in-Some-clause-kept
returns-in_err-append_replaced-in-Some-clause-kept c =
    λ plain. absurd (cut_not_plain c.args.placeholder.now c.args.bytes.items _ _ c.requires (rw (c.new-finder.ensures, c.as_slice.ensures.value) at c.in-Some.ensures) plain)

pub returns-in_ok-append_replaced-in-Some-clause-kept : goal.returns-in_ok-append_replaced-in-Some-clause-kept
returns-in_ok-append_replaced-in-Some-clause-kept c =
    λ plain. absurd (cut_not_plain c.args.placeholder.now c.args.bytes.items _ _ c.requires (rw (c.new-finder.ensures, c.as_slice.ensures.value) at c.in-Some.ensures) plain)

pub returns-in-None-clause-replaced : goal.returns-in-None-clause-replaced
returns-in-None-clause-replaced c =
    plain_stays c.args.placeholder.now c.args.prefix.now c.args.bytes.items (rw (c.new-finder.ensures, c.as_slice.ensures.value) at c.in-None.ensures)
