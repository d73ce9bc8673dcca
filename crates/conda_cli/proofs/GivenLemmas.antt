-- An answer that was given to an output that didn't fail.
use Rattle.std.proofs.Common.{inl, inr, ℕ}
use Rattle.conda_dev.specs.Fault.{Rose}
use Rattle.conda_dev.specs.Streams.{OutState}
use Rattle.conda_cli.specs.Answers.{Answer, IsGiven, IsPut}

pub given_whole : (answer : Answer) (status : ℕ) (before now : OutState) → ¬ Rose before.faults now.faults → IsGiven answer status before now
    → IsPut answer status before now
given_whole answer status before now quiet given =
    elim given as (λ _. IsPut answer status before now) [ inl whole ↦ whole | inr cut ↦ absurd (quiet cut.1) ]
