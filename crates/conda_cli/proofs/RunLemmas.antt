-- From why a run that reports on a history has its answer to what it answers where no count rises.
use Rattle.std.proofs.Common.{inl, inr, [], ◌∷◌, ◌≡◌, ◌↔◌, ◌<◌, ◌≤◌, ℕ, List, Option, Some, None, refl, sym, ap, subst, ◌∙◌, arith, length}
use Rattle.std.specs.Prelude.{Err, IfSome, Ok, ◌⊎◌}
use Rattle.conda_base.specs.Reads.{Read}
use Rattle.conda_dev.specs.Fault.{Rose}
use Rattle.conda_dev.specs.Hosts.{HostState}
use Rattle.conda_dev.specs.Streams.{OutState}
use Rattle.conda_dev.specs.Tree.{Tree}
use Rattle.conda_history.specs.Blocks.{IsBadAt, IsHistory}
use Rattle.conda_history.specs.Reading.{history_read}
use Rattle.conda_history.specs.declared.revision.Block.{Block}
use Rattle.conda_history.specs.declared.revision.History.{History}
use Rattle.conda_record.specs.declared.pkg_record.PkgRecord.{PkgRecord}
use Rattle.conda_cli.specs.declared.fault.Fault.{Fault}
use Rattle.conda_cli.specs.declared.fault.Fault.TheVariants.{BadHistory, EnvFault, HostFault, Memory}
use Rattle.conda_cli.specs.Faults.{status_of}
use Rattle.conda_cli.specs.Answers.{Answer, AnswersWith, Devices, IsCause, IsFaultOf, IsGood, IsPut, IsQuiet, IsRefusal, IsReportAnswer, IsReportOf, IsReported, IsRevisionsOf, Reports, ReportsExactly, Told, history_in, history_limit, refusal}
use Rattle.conda_cli.specs.Runs.{Does, IsUnread, Refuses, Runs, RunsRefute, RunsReport, RunsSourced, RunsVerb}
use Rattle.conda_cli.specs.Sourcing.{IsSearched, IsSolved, Sources, search_read, solve_read, sources_of}
use Rattle.conda_cli.proofs.SourceLemmas.{MayFail}
use Rattle.conda_cli.proofs.GivenLemmas.{given_whole}
use Rattle.conda_cli.proofs.RefuteLemmas.{checks_all}
use Rattle.conda_words.specs.declared.command.Command.{Command}
use Rattle.conda_words.specs.declared.command.Verb.{Verb}
use Rattle.conda_words.specs.declared.command.Verb.TheVariants as verbs
use Rattle.conda_words.specs.declared.error.Why.{Why}

-- what conda_history says of reading
pub record Laws : Type 0 where
  pub meaning : (bytes : List ℕ) (history : History) → (history_read bytes ≡ Ok history) ↔ IsHistory bytes history.blocks
  pub fault : (bytes : List ℕ) (line : ℕ) → (history_read bytes ≡ Err line) ↔ IsBadAt bytes line

-- ---- a history has one meaning

ok_same : (a b : History) → (let m : Read History ℕ = Ok a in m) ≡ Ok b → a ≡ b
ok_same a b e = cc

err_same : (a b : ℕ) → (let m : Read History ℕ = Err a in m) ≡ Err b → a ≡ b
err_same a b e = cc

ok_err : (a : History) (b : ℕ) → (let m : Read History ℕ = Ok a in m) ≡ Err b → ⊥
ok_err a b e = cc

module _ (laws : Laws) where
  read_of : (text : List ℕ) (blocks : List Block) → IsHistory text blocks → history_read text ≡ Ok (record { blocks = blocks })
  read_of text blocks h = (laws.meaning text (record { blocks = blocks })).1 h

  one_history : (text : List ℕ) (a b : List Block) → IsHistory text a → IsHistory text b → a ≡ b
  one_history text a b g h =
      ap (λ (x : History). x.blocks) (ok_same (record { blocks = a }) (record { blocks = b }) (sym (read_of text a g) ∙ read_of text b h))

  one_line : (text : List ℕ) (a b : ℕ) → IsBadAt text a → IsBadAt text b → a ≡ b
  one_line text a b g h = err_same a b (sym ((laws.fault text a).1 g) ∙ (laws.fault text b).1 h)

  not_both : (text : List ℕ) (blocks : List Block) (line : ℕ) → IsHistory text blocks → IsBadAt text line → ⊥
  not_both text blocks line g h = ok_err (record { blocks = blocks }) line (sym (read_of text blocks g) ∙ (laws.fault text line).1 h)

  -- ---- a history is good for one list of blocks, or has one cause

  one_good : (found : Option (List ℕ)) (a b : List Block) → IsGood found a → IsGood found b → a ≡ b
  one_good found a b g h =
      let e : g.0 ≡ h.0 = cc (g.1, h.1) in
      one_history h.0 a b (subst (λ t. IsHistory t a) e g.3) h.3

  one_cause : (found : Option (List ℕ)) (f g : Fault) → IsCause found f → IsCause found g → f ≡ g
  one_cause None f g p q = p ∙ sym q
  one_cause (Some text) f g p q =
      elim p as (λ _. f ≡ g) [
        | inl x ↦ elim q as (λ _. f ≡ g) [ inl y ↦ x.1 ∙ sym y.1 | inr y ↦ let short = y.1 in let more = x.0 in absurd (omega arith) ]
        | inr x ↦ elim q as (λ _. f ≡ g) [
          | inl y ↦ let short = x.1 in let more = y.0 in absurd (omega arith)
          | inr y ↦ x.3 ∙ ap BadHistory (one_line text x.0 y.0 x.2 y.2) ∙ sym y.3
        ]
      ]

  cause_or_good : (found : Option (List ℕ)) (f : Fault) (blocks : List Block) → IsCause found f → IsGood found blocks → ⊥
  cause_or_good None f blocks p q = let e : None ≡ Some q.0 = q.1 in cc
  cause_or_good (Some text) f blocks p q =
      let e : text ≡ q.0 = cc (q.1) in
      elim p as (λ _. ⊥) [
        | inl x ↦ let more = x.0 in let short = subst (λ t. length t ≤ history_limit) (sym e) q.2 in absurd (omega arith)
        | inr x ↦ not_both text blocks x.0 (subst (λ t. IsHistory t blocks) (sym e) q.3) x.2
      ]

-- ---- statuses

cause_status : (found : Option (List ℕ)) (f : Fault) → IsCause found f → ((found ≡ None) × (status_of f ≡ 1)) ⊎ (status_of f ≡ 2)
cause_status None f p = inl (refl, ap status_of p)
cause_status (Some text) f (inl x) = inr (ap status_of x.1)
cause_status (Some text) f (inr x) = inr (ap status_of x.3)

-- the answer that was given is of the kind that the command's answer is
pub gives_report : (Is : List Block → Answer → Type 0) (prefix : List ℕ) (c d : HostState) (x : Answer) (status : ℕ) (before now : OutState)
    → AnswersWith (λ answer. (answer ≡ x) ⊎ (answer ≡ refusal Memory [])) status before now
    → IsReportAnswer Is prefix c d x → AnswersWith (IsReportAnswer Is prefix c d) status before now
gives_report Is prefix c d x status before now gives is = (
  gives.0,
  elim gives.1 as (λ _. IsReportAnswer Is prefix c d gives.0) [
    | inl same ↦ subst (IsReportAnswer Is prefix c d) (sym same) is
    | inr memory ↦ inr (Memory, tt, memory)
  ],
  gives.2,
)

abbrev IsExact : (List Block → Answer → Type 0) → List ℕ → Option (List ℕ) → ℕ → OutState → OutState → Type 0
IsExact Is prefix found status before now = (status ≡ 5) ⊎ ((answer : Answer) × IsReported Is prefix found answer × IsPut answer status before now)

-- where no count rises, want of memory is the only fault
memory_alone : (before now : Told) → IsQuiet before now → (fault : Fault) → IsFaultOf before.host now.host fault → status_of fault ≡ 5
memory_alone before now quiet HostFault is = absurd (quiet.host is)
memory_alone before now quiet EnvFault is = absurd (quiet.lanes is)
memory_alone before now quiet Memory is = refl
memory_alone before now quiet _ is = absurd is

-- where no count rises, the answer is the tree's
exact : (Is : List Block → Answer → Type 0) (tree : Tree) (prefix : List ℕ) (status : ℕ) (before now : Told) → before.host.told prefix ≡ Some tree → IsQuiet before now
    → AnswersWith (IsReportAnswer Is prefix before.host now.host) status before.output now.output
    → IsExact Is prefix (history_in tree) status before.output now.output
exact Is tree prefix status before now is quiet gives =
    let whole : IsPut gives.0 status before.output now.output = given_whole gives.0 status before.output now.output quiet.output gives.2 in
    elim gives.1 as (λ _. IsExact Is prefix (history_in tree) status before.output now.output) [
      | inl lists ↦
          let same : lists.0 ≡ history_in tree = subst (λ t. IfSome t (λ tree. lists.0 ≡ history_in tree)) is lists.1 in
          inr (gives.0, subst (λ f. IsReported Is prefix f gives.0) same lists.2, whole)
      | inr faults ↦ inl (whole.0 ∙ ap (λ a. a.status) faults.2 ∙ memory_alone before now quiet faults.0 faults.1)
    ]

reports_memory : (Is : List Block → Answer → Type 0) (prefix : List ℕ) (found : Option (List ℕ)) (status : ℕ) (before now : OutState) → status ≡ 5
    → ReportsExactly Is prefix found status before now
reports_memory Is prefix found status before now is = record {
  refused = λ fault cause. inr is;
  reported = λ blocks good. inr is;
  absent_only = λ one. absurd (omega arith);
  bad_only = λ two. absurd (omega arith);
  good_only = λ zero. absurd (omega arith);
}

reports_refused : Laws → (Is : List Block → Answer → Type 0) (prefix : List ℕ) (found : Option (List ℕ)) (answer : Answer) (status : ℕ) (before now : OutState)
    → (fault : Fault) → IsCause found fault → answer ≡ refusal fault prefix → IsPut answer status before now → ReportsExactly Is prefix found status before now
reports_refused laws Is prefix found answer status before now fault cause same whole =
    let is : status ≡ status_of fault = whole.0 ∙ ap (λ a. a.status) same in
    record {
      refused = λ other cause'. inl (answer, same ∙ ap (λ f. refusal f prefix) (one_cause laws found fault other cause cause'), whole);
      reported = λ blocks good. absurd (cause_or_good laws found fault blocks cause good);
      absent_only = λ one. elim (cause_status found fault cause) as (λ _. found ≡ None) [ inl none ↦ none.0 | inr two ↦ absurd (omega arith) ];
      bad_only = λ two. (fault, cause, sym is ∙ two);
      good_only = λ zero. absurd (elim (cause_status found fault cause) as (λ _. ⊥) [ inl none ↦ let one = none.1 in absurd (omega arith) | inr two ↦ absurd (omega arith) ]);
    }

reports_good : Laws → (Is : List Block → Answer → Type 0) → ((blocks : List Block) (answer : Answer) → Is blocks answer → answer.status ≡ 0)
    → (prefix : List ℕ) (found : Option (List ℕ)) (answer : Answer) (status : ℕ) (before now : OutState)
    → (blocks : List Block) → IsGood found blocks → Is blocks answer → IsPut answer status before now → ReportsExactly Is prefix found status before now
reports_good laws Is zero prefix found answer status before now blocks good it whole =
    let is : status ≡ 0 = whole.0 ∙ zero blocks answer it in
    record {
      refused = λ fault cause. absurd (cause_or_good laws found fault blocks cause good);
      reported = λ other good'. inl (answer, subst (λ b. Is b answer) (one_good laws found blocks other good good') it, whole);
      absent_only = λ one. absurd (omega arith);
      bad_only = λ two. absurd (omega arith);
      good_only = λ _. (blocks, good);
    }

reports_exactly : Laws → (Is : List Block → Answer → Type 0) → ((blocks : List Block) (answer : Answer) → Is blocks answer → answer.status ≡ 0)
    → (prefix : List ℕ) (found : Option (List ℕ)) (status : ℕ) (before now : OutState)
    → IsExact Is prefix found status before now → ReportsExactly Is prefix found status before now
reports_exactly laws Is zero prefix found status before now (inl memory) = reports_memory Is prefix found status before now memory
reports_exactly laws Is zero prefix found status before now (inr whole) =
    elim whole.1 as (λ _. ReportsExactly Is prefix found status before now) [
      | inl bad ↦ reports_refused laws Is prefix found whole.0 status before now bad.0 bad.1 bad.2 whole.2
      | inr good ↦ reports_good laws Is zero prefix found whole.0 status before now good.0 good.1 good.2 whole.2
    ]

below_three : (Is : List Block → Answer → Type 0) → ((blocks : List Block) (answer : Answer) → Is blocks answer → answer.status ≡ 0)
    → (prefix : List ℕ) (found : Option (List ℕ)) (answer : Answer) → IsReported Is prefix found answer → answer.status < 3
below_three Is zero prefix found answer which =
    elim which as (λ _. answer.status < 3) [
      | inl bad ↦
          let e : answer.status ≡ status_of bad.0 = ap (λ a. a.status) bad.2 in
          elim (cause_status found bad.0 bad.1) as (λ _. answer.status < 3) [ inl none ↦ let one = none.1 in omega arith | inr two ↦ omega arith ]
      | inr good ↦ let e : answer.status ≡ 0 = zero good.0 answer good.2 in omega arith
    ]

-- some count rose
abbrev Rises : Told → Told → Type 0
Rises before now =
    Rose before.host.faults now.host.faults ⊎ Rose before.host.lane_faults now.host.lane_faults
    ⊎ Rose before.output.faults now.output.faults

fault_of_three : (before now : Told) (fault : Fault) → IsFaultOf before.host now.host fault → status_of fault ≡ 3 → Rises before now
fault_of_three before now HostFault is three = inl is
fault_of_three before now EnvFault is three = inr (inl is)
fault_of_three before now Memory is three = absurd (omega (arith, three))
fault_of_three before now _ is three = absurd is

-- status 3 only where a count rose
fault_rose : (Is : List Block → Answer → Type 0) → ((blocks : List Block) (answer : Answer) → Is blocks answer → answer.status ≡ 0)
    → (prefix : List ℕ) (before now : Told) (status : ℕ)
    → AnswersWith (IsReportAnswer Is prefix before.host now.host) status before.output now.output → status ≡ 3 → Rises before now
fault_rose Is zero prefix before now status gives three =
    elim gives.2 as (λ _. Rises before now) [
      | inr cut ↦ inr (inr cut.1)
      | inl put ↦ elim gives.1 as (λ _. Rises before now) [
        | inl lists ↦
            let small : gives.0.status < 3 = below_three Is zero prefix lists.0 gives.0 lists.2 in
            let same : status ≡ gives.0.status = put.0 in
            absurd (omega arith)
        | inr faults ↦ fault_of_three before now faults.0 faults.1 (sym (ap (λ a. a.status) faults.2) ∙ sym put.0 ∙ three)
      ]
    ]

-- all that such a run tells
pub reports_all : Laws → (Is : List Block → Answer → Type 0) → ((blocks : List Block) (answer : Answer) → Is blocks answer → answer.status ≡ 0)
    → (prefix : List ℕ) (status : ℕ) (before now : Told) (x : Answer)
    → AnswersWith (λ answer. (answer ≡ x) ⊎ (answer ≡ refusal Memory [])) status before.output now.output
    → IsReportAnswer Is prefix before.host now.host x → Reports Is prefix status before now
reports_all laws Is zero prefix status before now x gives is =
    let g : AnswersWith (IsReportAnswer Is prefix before.host now.host) status before.output now.output =
    gives_report Is prefix before.host now.host x status before.output now.output gives is in
    record {
      answers = g;
      exactly = λ tree told quiet. reports_exactly laws Is zero prefix (history_in tree) status before.output now.output
          (exact Is tree prefix status before now told quiet g);
      faults = fault_rose Is zero prefix before now status g;
    }

-- ---- want of memory before the words are read as anything

module _ {H K I : Type 0} where
  -- the line of want of memory was given, and no device but the output was touched
  pub record Starved (status : ℕ) (before now : Devices H K I) : Type 0 where
    pub answers : AnswersWith (IsRefusal Memory) status before.told.output now.told.output
    pub host : now.host ≡ before.host
    pub told : now.told.host ≡ before.told.host
    pub unread : IsUnread before now

  memory_said : (status : ℕ) (before now : Devices H K I) → (s : Starved status before now) → s.answers.0 ≡ refusal Memory []
  memory_said status before now s = elim s.answers.1 as (λ _. s.answers.0 ≡ refusal Memory []) [ inl same ↦ same | inr same ↦ same ]

  put_five : (status : ℕ) (before now : Devices H K I) → (s : Starved status before now)
      → IsPut s.answers.0 status before.told.output now.told.output → status ≡ 5
  put_five status before now s put = put.0 ∙ ap (λ a. a.status) (memory_said status before now s)

  starved_report : (Is : List Block → Answer → Type 0) (prefix : List ℕ) (status : ℕ) (before now : Devices H K I)
      → Starved status before now → RunsReport Is prefix status before now
  starved_report Is prefix status before now s = record {
    reports = record {
      answers = (s.answers.0, inr (Memory, tt, memory_said status before now s), s.answers.2);
      exactly = λ tree told quiet. reports_memory Is prefix (history_in tree) status before.told.output now.told.output
          (put_five status before now s (given_whole s.answers.0 status before.told.output now.told.output quiet.output s.answers.2));
      faults = λ three. elim s.answers.2 as (λ _. Rises before.told now.told) [
        | inl put ↦ let five = put_five status before now s put in absurd (omega arith)
        | inr cut ↦ inr (inr cut.1)
      ];
    };
    unread = s.unread;
  }

  starved_sourced : {A : Type 0} (Is : A → List PkgRecord → Answer → Type 0) (asked : Read A Fault) (from : Sources) (status : ℕ)
      (before now : Devices H K I) → Starved status before now → RunsSourced Is asked from status before now
  starved_sourced Is asked from status before now s = record {
    sourced = record {
      answers = (s.answers.0, inr (inr (Memory, tt, memory_said status before now s)), s.answers.2);
      exactly = λ told quiet found are. inr
          (put_five status before now s (given_whole s.answers.0 status before.told.output now.told.output quiet.output s.answers.2));
      faults = λ three. elim s.answers.2 as (λ _. MayFail from before.told now.told) [
        | inl put ↦ let five = put_five status before now s put in absurd (omega arith)
        | inr cut ↦ inr (inr (inl cut.1))
      ];
    };
    unread = s.unread;
  }

  starved_refute : (status : ℕ) (before now : Devices H K I) → Starved status before now → RunsRefute status before now
  starved_refute status before now s = record {
    checks = checks_all status before.heard now.heard before.told.output now.told.output (refusal Memory []) s.answers (inr (inr refl));
    host = s.host;
    clock = s.unread.clock;
  }

  starved_refusal : (fault : Fault) (status : ℕ) (before now : Devices H K I) → Starved status before now → Refuses fault status before now
  starved_refusal fault status before now s = record {
    answers = (s.answers.0, inr (memory_said status before now s), s.answers.2);
    host = s.host;
    unread = s.unread;
  }

  starved_verb : (verb : Verb) (prefixes words : List (List ℕ)) (from : Sources) (status : ℕ) (before now : Devices H K I)
      → Starved status before now → RunsVerb verb prefixes words from status before now
  starved_verb verbs.List (prefix ∷ []) _ _ status before now s = starved_report (IsReportOf prefix) prefix status before now s
  starved_verb verbs.Revisions (prefix ∷ []) _ _ status before now s = starved_report IsRevisionsOf prefix status before now s
  starved_verb verbs.Search _ (word ∷ []) from status before now s = starved_sourced IsSearched (search_read word) from status before now s
  starved_verb verbs.Solve _ words from status before now s = starved_sourced IsSolved (solve_read words) from status before now s
  starved_verb verbs.Refute _ _ _ status before now s = starved_refute status before now s
  starved_verb _ _ _ _ status before now s = starved_refusal _ status before now s

  starved_does : (read : Read Command (ℕ × Why)) (status : ℕ) (before now : Devices H K I)
      → Starved status before now → Does read status before now
  starved_does (Ok command) status before now s =
      starved_verb command.verb command.prefixes command.words (sources_of command) status before now s
  starved_does (Err fault) status before now s = starved_refusal _ status before now s

  -- whatever the words are read as
  pub starved_runs : (read : Read Command (ℕ × Why)) (status : ℕ) (before now : Devices H K I)
      → Starved status before now → Runs read status before now
  starved_runs read status before now s = record {
    does = starved_does read status before now s;
    trees = λ prefix. ap (λ h. h.told prefix) s.told;
    lent = λ prefix. ap (λ h. h.lent prefix) s.told;
    files = ap (λ h. h.files) s.told;
  }
