use Rattle.std.proofs.Common.{inr, refl}
use Rattle.conda_prefix.proofs.RunLemmas.{first_has_run, none_stays}
use Rattle.conda_prefix.proofs.binary.replace_binary.Goals as goal

pub returns-then-prefix-width-clause-kept : goal.returns-then-prefix-width-clause-kept
returns-then-prefix-width-clause-kept c =
    λ none. absurd (none (first_has_run _ _ _ _ _ (rw (c.new-finder.ensures, c.as_slice.ensures.value) at c.in-Some.ensures)))

pub returns-then-prefix-width-clause-short : goal.returns-then-prefix-width-clause-short
returns-then-prefix-width-clause-short c =
    inr (refl, c.if-prefix-width.true, first_has_run _ _ _ _ _ (rw (c.new-finder.ensures, c.as_slice.ensures.value) at c.in-Some.ensures))

pub returns-in_err-made-in-Some-clause-kept : goal.returns-in_err-made-in-Some-clause-kept
returns-in_err-made-in-Some-clause-kept c =
    λ none. absurd (none (first_has_run _ _ _ _ _ (rw (c.new-finder.ensures, c.as_slice.ensures.value) at c.in-Some.ensures)))

pub returns-in_ok-made-in-Some-clause-kept : goal.returns-in_ok-made-in-Some-clause-kept
returns-in_ok-made-in-Some-clause-kept c =
    λ none. absurd (none (first_has_run _ _ _ _ _ (rw (c.new-finder.ensures, c.as_slice.ensures.value) at c.in-Some.ensures)))

pub returns-in-None-clause-replaced : goal.returns-in-None-clause-replaced
returns-in-None-clause-replaced c =
    none_stays c.args.placeholder.now c.args.prefix.now c.args.bytes.items (rw (c.new-finder.ensures, c.as_slice.ensures.value) at c.in-None.ensures)
