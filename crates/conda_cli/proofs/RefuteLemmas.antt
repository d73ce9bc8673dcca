-- From why a run that checks a log has its answer to what it answers where no count rises.
use Rattle.std.proofs.Common.{◌≡◌, ◌⊎◌, inl, inr, ℕ, ◌<◌, ◌≤◌, true, false, List, [], length, Some, sym, ap, subst, ◌∙◌, arith}
use Rattle.std.specs.Prelude.{IfSome}
use Rattle.conda_dev.specs.Fault.{Rose}
use Rattle.conda_dev.specs.Streams.{OutState}
use Rattle.conda_refute.specs.Refutation.{refuted}
use Rattle.conda_refute.specs.declared.log.Log.{Log}
use Rattle.conda_cli.specs.declared.fault.Fault.TheVariants.{LongInput, Memory}
use Rattle.conda_cli.specs.Answers.{Answer, AnswersWith, InputState, IsPut, refusal}
use Rattle.conda_cli.specs.Faults.{status_of}
use Rattle.conda_cli.specs.Refuting.{Checks, ChecksExactly, IsAlone, IsBadLog, IsChecked, IsRefuteAnswer, IsTextOf, IsVerdict, log_limit}
use Rattle.conda_cli.proofs.GivenLemmas.{given_whole}

-- ---- statuses

bad_status : (text : List ℕ) (answer : Answer) → IsBadLog text answer → answer.status ≡ 2
bad_status text answer bad = ap (λ a. a.status) bad.2 ∙ ap status_of bad.1.3

verdict_status : (text : List ℕ) (answer : Answer) → IsVerdict text answer → answer.status < 3
verdict_status text answer (inl long) = let two : answer.status ≡ 2 = ap (λ a. a.status) long.1 in omega arith
verdict_status text answer (inr found) =
    elim found.1 as (λ _. answer.status < 3) [
      | inl bad ↦ let two : answer.status ≡ 2 = bad_status text answer bad in omega arith
      | inr log ↦ elim log.3 as (λ _. answer.status < 3) [
        | inl right ↦ let zero : answer.status ≡ 0 = ap (λ a. a.status) right.1 in omega arith
        | inr wrong ↦ let one : answer.status ≡ 1 = ap (λ a. a.status) wrong.3 in omega arith
      ]
    ]

-- ---- what is answered where no count rises

checks_memory : (text : List ℕ) (status : ℕ) (before now : OutState) → status ≡ 5 → ChecksExactly text status before now
checks_memory text status before now is = record {
  long = λ _. inr is;
  none = λ _ _. inr is;
  checked = λ _ _ _. inr is;
  refuted_only = λ zero. absurd (omega arith);
  not_refuted_only = λ one. absurd (omega arith);
  bad_only = λ two. absurd (omega arith);
}

checks_long : (text : List ℕ) (answer : Answer) (status : ℕ) (before now : OutState) → log_limit < length text
    → answer ≡ refusal LongInput [] → IsPut answer status before now → ChecksExactly text status before now
checks_long text answer status before now more same whole =
    let is : status ≡ 2 = whole.0 ∙ ap (λ a. a.status) same in
    record {
      long = λ _. inl (answer, same, whole);
      none = λ short _. absurd (omega arith);
      checked = λ short _ _. absurd (omega arith);
      refuted_only = λ zero. absurd (omega arith);
      not_refuted_only = λ one. absurd (omega arith);
      bad_only = λ _. inl more;
    }

checks_bad : (text : List ℕ) (answer : Answer) (status : ℕ) (before now : OutState) → length text ≤ log_limit
    → IsBadLog text answer → IsPut answer status before now → ChecksExactly text status before now
checks_bad text answer status before now short bad whole =
    let is : status ≡ 2 = whole.0 ∙ bad_status text answer bad in
    record {
      long = λ more. absurd (omega arith);
      none = λ _ _. inl (answer, bad, whole);
      checked = λ _ log of. absurd (bad.1.1 log of);
      refuted_only = λ zero. absurd (omega arith);
      not_refuted_only = λ one. absurd (omega arith);
      bad_only = λ _. inr bad.1.1;
    }

checks_log : (text : List ℕ) (log : Log) (answer : Answer) (status : ℕ) (before now : OutState) → length text ≤ log_limit
    → IsTextOf text log → IsAlone text log → IsChecked log answer → IsPut answer status before now → ChecksExactly text status before now
checks_log text log answer status before now short of alone is whole =
    let same : status ≡ answer.status = whole.0 in
    record {
      long = λ more. absurd (omega arith);
      none = λ _ none. absurd (none log of);
      checked = λ _ other its. inl (answer, subst (λ l. IsChecked l answer) (sym (alone other its)) is, whole);
      refuted_only = λ zero. (
        log,
        of,
        elim is as (λ _. refuted log ≡ true) [
          | inl right ↦ right.0
          | inr wrong ↦ let one : answer.status ≡ 1 = ap (λ a. a.status) wrong.3 in absurd (omega arith)
        ],
      );
      not_refuted_only = λ one. (
        log,
        of,
        elim is as (λ _. refuted log ≡ false) [
          | inl right ↦ let none : answer.status ≡ 0 = ap (λ a. a.status) right.1 in absurd (omega arith)
          | inr wrong ↦ wrong.1
        ],
      );
      bad_only = λ two. elim is as (λ _. (log_limit < length text) ⊎ ((l : Log) → IsTextOf text l → ⊥)) [
        | inl right ↦ let none : answer.status ≡ 0 = ap (λ a. a.status) right.1 in absurd (omega arith)
        | inr wrong ↦ let one : answer.status ≡ 1 = ap (λ a. a.status) wrong.3 in absurd (omega arith)
      ];
    }

checks_verdict : (text : List ℕ) (answer : Answer) (status : ℕ) (before now : OutState) → IsVerdict text answer
    → IsPut answer status before now → ChecksExactly text status before now
checks_verdict text answer status before now (inl long) whole = checks_long text answer status before now long.0 long.1 whole
checks_verdict text answer status before now (inr found) whole =
    elim found.1 as (λ _. ChecksExactly text status before now) [
      | inl bad ↦ checks_bad text answer status before now found.0 bad whole
      | inr log ↦ checks_log text log.0 answer status before now found.0 log.1 log.2 log.3 whole
    ]

checks_exactly : (input_before input_now : InputState) (text : List ℕ) (answer : Answer) (status : ℕ) (before now : OutState)
    → input_before.left ≡ Some text → ¬ Rose input_before.faults input_now.faults → IsRefuteAnswer input_before input_now answer
    → IsPut answer status before now → ChecksExactly text status before now
checks_exactly input_before input_now text answer status before now told quiet (inl heard) whole =
    let all = subst (λ left. IfSome left (λ all. (heard.0 ≡ all) × (length heard.0 ≤ log_limit → input_now.left ≡ Some []))) told heard.1 in
    checks_verdict text answer status before now (subst (λ t. IsVerdict t answer) all.0 heard.2) whole
checks_exactly input_before input_now text answer status before now told quiet (inr (inl fault)) whole = absurd (quiet fault.0)
checks_exactly input_before input_now text answer status before now told quiet (inr (inr memory)) whole =
    checks_memory text status before now (whole.0 ∙ ap (λ a. a.status) memory)

-- status 3 only where a count rose
fault_rose : (input_before input_now : InputState) (answer : Answer) → IsRefuteAnswer input_before input_now answer
    → answer.status ≡ 3 → Rose input_before.faults input_now.faults
fault_rose input_before input_now answer (inl heard) three =
    let small : answer.status < 3 = verdict_status heard.0 answer heard.2 in absurd (omega arith)
fault_rose input_before input_now answer (inr (inl fault)) three = fault.0
fault_rose input_before input_now answer (inr (inr memory)) three =
    let five : answer.status ≡ 5 = ap (λ a. a.status) memory in absurd (omega arith)

-- all that such a run tells
pub checks_all : (status : ℕ) (input_before input_now : InputState) (before now : OutState) (x : Answer)
    → AnswersWith (λ answer. (answer ≡ x) ⊎ (answer ≡ refusal Memory [])) status before now
    → IsRefuteAnswer input_before input_now x → Checks status input_before input_now before now
checks_all status input_before input_now before now x gives is =
    let why : IsRefuteAnswer input_before input_now gives.0 = elim gives.1 as (λ _. IsRefuteAnswer input_before input_now gives.0) [
      | inl same ↦ subst (IsRefuteAnswer input_before input_now) (sym same) is
      | inr memory ↦ inr (inr memory)
    ] in
    record {
      answers = (gives.0, why, gives.2);
      exactly = λ text told quiet_input quiet. checks_exactly input_before input_now text gives.0 status before now told quiet_input why
          (given_whole gives.0 status before now quiet gives.2);
      faults = λ three. elim gives.2 as (λ _. Rose input_before.faults input_now.faults ⊎ Rose before.faults now.faults) [
        | inl put ↦ inl (fault_rose input_before input_now gives.0 why (sym put.0 ∙ three))
        | inr cut ↦ inr cut.1
      ];
    }
