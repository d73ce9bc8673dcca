-- What a run of the program does. This project's own.
use Rattle.std.specs.Prelude.{◌≡◌, ℕ, Bool, true, false, List, [], ◌∷◌, Option, Some, None, Ok, Err}
use Rattle.conda_base.specs.Reads.{Read}
use Rattle.conda_dev.specs.Hosts.{SameOfAll}
use Rattle.conda_history.specs.declared.revision.Block.{Block}
use Rattle.conda_record.specs.declared.pkg_record.PkgRecord.{PkgRecord}
use Rattle.conda_words.specs.declared.command.Command.{Command}
use Rattle.conda_words.specs.declared.command.Verb.{Verb}
use Rattle.conda_words.specs.declared.command.Verb.TheVariants as verbs
use Rattle.conda_words.specs.declared.error.Why.{Why}
use Rattle.conda_words.specs.declared.error.Why.TheVariants.{Unknown}
use Rattle.conda_words.specs.Reading.{words_read}
use Rattle.conda_cli.specs.declared.fault.Fault.{Fault}
use Rattle.conda_cli.specs.declared.fault.Fault.TheVariants.{Usage}
use Rattle.conda_cli.specs.Answers.{Answer, AnswersWith, Devices, IsRefusal, IsReportOf, IsRevisionsOf, Reports}
use Rattle.conda_cli.specs.Refuting.{Checks}
use Rattle.conda_cli.specs.Sourcing.{IsSearched, IsSolved, Sourced, Sources, search_read, solve_read, sources_of}

-- the words of some command line give it
abbrev pub IsRead : Command → Type 0
IsRead command = (words : List (List ℕ)) × (words_read words ≡ Ok command)

-- it runs in several threads, which wait for one another
abbrev pub waits : Verb → Bool
waits verbs.Batch = true
waits (verbs.Exercise number) = true
waits _ = false

-- the prefix that a command of this verb and these prefixes lists
abbrev pub listed : Verb → List (List ℕ) → Option (List ℕ)
listed verbs.List (prefix ∷ []) = Some prefix
listed _ _ = None

-- the word of a command of this verb and these words that is searched for
abbrev pub searched : Verb → List (List ℕ) → Option (List ℕ)
searched verbs.Search (word ∷ []) = Some word
searched _ _ = None

-- the prefix whose revisions it lists
abbrev pub revised : Verb → List (List ℕ) → Option (List ℕ)
revised verbs.Revisions (prefix ∷ []) = Some prefix
revised _ _ = None

module _ {H K I : Type 0} where
  -- neither the clock nor the input was touched
  pub record IsUnread (before now : Devices H K I) : Type 0 where
    pub clock : now.clock ≡ before.clock
    pub input : now.input ≡ before.input

  -- this fault's line was given, or that there was no memory; and no other device was touched
  pub record Refuses (fault : Fault) (status : ℕ) (before now : Devices H K I) : Type 0 where
    pub answers : AnswersWith (IsRefusal fault) status before.told.output now.told.output
    pub host : now.host ≡ before.host
    pub unread : IsUnread before now

  -- a report of this kind on the history of an environment was given
  pub record RunsReport (Is : List Block → Answer → Type 0) (prefix : List ℕ) (status : ℕ) (before now : Devices H K I) : Type 0 where
    pub reports : Reports Is prefix status before.told now.told
    pub unread : IsUnread before now

  -- what was asked for was looked for in the command's sources
  pub record RunsSourced {A : Type 0} (Is : A → List PkgRecord → Answer → Type 0) (asked : Read A Fault) (from : Sources) (status : ℕ) (before now : Devices H K I) : Type 0 where
    pub sourced : Sourced Is asked from status before.told now.told
    pub unread : IsUnread before now

  -- the log that the input has was checked, and no other device was touched
  pub record RunsRefute (status : ℕ) (before now : Devices H K I) : Type 0 where
    pub checks : Checks status before.heard now.heard before.told.output now.told.output
    pub host : now.host ≡ before.host
    pub clock : now.clock ≡ before.clock

  -- What a run of a command does, by its verb, its prefixes, its words and its sources: each verb that is built has its
  -- case here. Every other command is refused.
  abbrev pub RunsVerb : Verb → List (List ℕ) → List (List ℕ) → Sources → ℕ → Devices H K I → Devices H K I → Type 0
  RunsVerb verbs.List (prefix ∷ []) _ _ status before now = RunsReport (IsReportOf prefix) prefix status before now
  RunsVerb verbs.Revisions (prefix ∷ []) _ _ status before now = RunsReport IsRevisionsOf prefix status before now
  RunsVerb verbs.Search _ (word ∷ []) from status before now = RunsSourced IsSearched (search_read word) from status before now
  RunsVerb verbs.Solve _ words from status before now = RunsSourced IsSolved (solve_read words) from status before now
  RunsVerb verbs.Refute _ _ _ status before now = RunsRefute status before now
  RunsVerb _ _ _ _ status before now = Refuses (Usage 0 Unknown) status before now

  -- the words are read as a command, which runs, or as their first fault
  abbrev pub Does : Read Command (ℕ × Why) → ℕ → Devices H K I → Devices H K I → Type 0
  Does (Ok command) status before now = RunsVerb command.verb command.prefixes command.words (sources_of command) status before now
  Does (Err fault) status before now = Refuses (Usage fault.0 fault.1) status before now

  -- What a run does with what its words are read as. Whatever they are, every tree and every channel stays, and what was
  -- lent was taken back.
  pub record Runs (read : Read Command (ℕ × Why)) (status : ℕ) (before now : Devices H K I) : Type 0 where
    pub does : Does read status before now
    pub trees : SameOfAll before.told.host.told now.told.host.told
    pub lent : SameOfAll before.told.host.lent now.told.host.lent
    pub files : now.told.host.files ≡ before.told.host.files
