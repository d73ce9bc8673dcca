-- What the commands answer that read channels, `search` and `solve`. This project's own.
use Rattle.std.specs.Prelude.{◌≡◌, ◌⊎◌, ℕ, List, [], Option, IsSome, Ok, Err}
use Rattle.std.specs.List.{All}
use Rattle.conda_base.specs.Reads.{Read}
use Rattle.conda_dev.specs.Fault.{Rose}
use Rattle.conda_dev.specs.Hosts.{HostState}
use Rattle.conda_device.specs.Channels.{Files}
use Rattle.conda_spec.specs.Parts.{Parts}
use Rattle.conda_record.specs.declared.pkg_record.PkgRecord.{PkgRecord}
use Rattle.conda_repodata.specs.declared.repodata.Repodata.{Repodata}
use Rattle.conda_index.specs.declared.virtuals.Virtual.{Virtual}
use Rattle.conda_words.specs.declared.command.Command.{Command}
use Rattle.conda_sources.specs.Channels.{AreFound, Found}
use Rattle.conda_sources.specs.Reading.{sources_read}
use Rattle.conda_sources.specs.Sources.{IsIndexOf}
use Rattle.conda_sources.specs.Virtuals.{virtual_list}
use Rattle.conda_sources.specs.declared.error.SourceErr.{SourceErr}
use Rattle.conda_sources.specs.declared.error.SourceErr.TheVariants as sources
use Rattle.conda_requests.specs.Searching.{IsSearchReport, NamesNone}
use Rattle.conda_requests.specs.Solving.{IsChoiceReport, IsUnsatReport}
use Rattle.conda_requests.specs.Words.{WordFault, plain_words_read, word_read}
use Rattle.conda_requests.specs.declared.error.RequestErr.{RequestErr}
use Rattle.conda_requests.specs.declared.error.RequestErr.TheVariants as requests
use Rattle.conda_requests.specs.declared.error.WordErr.{WordErr}
use Rattle.conda_requests.specs.declared.error.WordErr.TheVariants as words
use Rattle.conda_cli.specs.declared.fault.Fault.{Fault}
use Rattle.conda_cli.specs.declared.fault.Fault.TheVariants.{BadSpec, NoMatch, Unsat, BadRepodata, LongRepodata, ManyRecords, Missing, ChanFault, HostFault, Memory}
use Rattle.conda_cli.specs.Answers.{Answer, AnswersWith, EndsWith, IsQuiet, Told, refusal}

-- ---- what is asked for, and where it is looked for

-- the specifications of words, or the fault of the first word that has one
abbrev pub of_words : {A : Type 0} → Read A WordFault → Read A Fault
of_words (Ok asked) = Ok asked
of_words (Err fault) = Err (BadSpec fault.text fault.at fault.why)

abbrev pub search_read : List ℕ → Read Parts Fault
search_read word = of_words (word_read word)

abbrev pub solve_read : List (List ℕ) → Read (List Parts) Fault
solve_read words = of_words (plain_words_read words)

-- where a command's packages come from: the channels of these names in a folder, and virtual packages
pub record Sources : Type 0 where
  pub folder : List ℕ
  pub channels : List (List ℕ)
  pub virtuals : List Virtual

abbrev pub sources_of : Command → Sources
sources_of command =
    record { folder = command.channel_dir; channels = command.channels; virtuals = virtual_list command.virtuals }

-- a fault of the sources, as a run answers it
abbrev pub source_fault : SourceErr → Fault
source_fault (sources.BadRepodata path field) = BadRepodata path field
source_fault (sources.LongRepodata path) = LongRepodata path
source_fault (sources.Missing channel) = Missing channel
source_fault sources.ManyRecords = ManyRecords
source_fault sources.ChanFault = ChanFault
source_fault sources.HostFault = HostFault
source_fault sources.Memory = Memory

-- a fault of words, and a refusal of a request, as a run answers them
abbrev pub word_fault : WordErr → Fault
word_fault (words.BadSpec text at why) = BadSpec text at why
word_fault words.Memory = Memory

abbrev pub request_fault : RequestErr → Fault
request_fault requests.NoMatch = NoMatch
request_fault (requests.Unsat report) = Unsat report
request_fault requests.Memory = Memory

-- ---- what an index answers

abbrev pub report_with : List ℕ → Answer
report_with text = record { status = 0; text = text }

-- the report of the records that the specification names, or that there is none
abbrev pub IsSearched : Parts → List PkgRecord → Answer → Type 0
IsSearched spec index answer =
    ((text : List ℕ) × IsSearchReport spec index text × (answer ≡ report_with text))
    ⊎ (NamesNone spec index × (answer ≡ refusal NoMatch []))

-- the report of the first choice, or that of a refutation, where there is no solution
abbrev pub IsSolved : List Parts → List PkgRecord → Answer → Type 0
IsSolved specs index answer =
    ((text : List ℕ) × IsChoiceReport specs index text × (answer ≡ report_with text))
    ⊎ ((text : List ℕ) × IsUnsatReport specs index text × (answer ≡ refusal (Unsat text) []))

-- ---- what a run answers

-- the answer that is due: the first fault of the words; else that of the sources; else what the index of the sources answers
abbrev pub IsDue : {A : Type 0} → (A → List PkgRecord → Answer → Type 0) → Read A Fault → List Virtual → Read (List Repodata) SourceErr → Answer → Type 0
IsDue Is (Err fault) virtuals parts answer = answer ≡ refusal fault []
IsDue Is (Ok asked) virtuals (Err fault) answer = answer ≡ refusal (source_fault fault) []
IsDue Is (Ok asked) virtuals (Ok parts) answer = (index : List PkgRecord) × IsIndexOf parts virtuals index × Is asked index answer

-- this was found of a command's channels: what they have, where they tell their files
abbrev pub AreFoundBy : Sources → HostState → List Found → Type 0
AreFoundBy from host found = AreFound (host.files from.folder) from.channels found

-- each of the channels tells its files
abbrev pub AreTold : Sources → HostState → Type 0
AreTold from host = All (λ channel. IsSome (host.files from.folder channel)) from.channels

-- a fault of the host or of a channel of which the count rose, or want of memory
abbrev pub IsSourceFault : HostState → HostState → Fault → Type 0
IsSourceFault before now HostFault = Rose before.faults now.faults
IsSourceFault before now ChanFault = Rose before.chan_faults now.chan_faults
IsSourceFault before now Memory = Unit {0}
IsSourceFault before now _ = ⊥

-- A run that reads channels answers the fault of its words; or what is due to what it found of the channels; or a fault of which the count
-- rose; or that there was no memory.
abbrev pub IsSourcedAnswer : {A : Type 0} → (A → List PkgRecord → Answer → Type 0) → Read A Fault → Sources → HostState → HostState → Answer → Type 0
IsSourcedAnswer Is asked from before now answer =
    ((fault : Fault) × (asked ≡ Err fault) × (answer ≡ refusal fault []))
    ⊎ ((found : List Found) × AreFoundBy from before found × IsDue Is asked from.virtuals (sources_read from.virtuals found) answer)
    ⊎ ((fault : Fault) × IsSourceFault before now fault × (answer ≡ refusal fault []))

-- a channel has no repodata in any subdir, and none before it has a fault
abbrev pub LacksChannel : Sources → HostState → Type 0
LacksChannel from host =
    (found : List Found) × (channel : List ℕ) × AreFoundBy from host found × (sources_read from.virtuals found ≡ Err (sources.Missing channel))

-- what a run tells that reads channels
pub record Sourced {A : Type 0} (Is : A → List PkgRecord → Answer → Type 0) (asked : Read A Fault) (from : Sources) (status : ℕ) (before now : Told) : Type 0 where
  -- some answer is given, with its cause
  pub answers : AnswersWith (IsSourcedAnswer Is asked from before.host now.host) status before.output now.output
  -- where the channels tell their files, and no count of faults rises, the answer is the one that is due to these files
  pub exactly : AreTold from before.host → IsQuiet before now → (found : List Found) → AreFoundBy from before.host found
      → EndsWith (IsDue Is asked from.virtuals (sources_read from.virtuals found)) status before.output now.output
  -- status 3 only where a count rose, or a channel has no repodata
  pub faults : status ≡ 3 → Rose before.host.faults now.host.faults ⊎ Rose before.host.chan_faults now.host.chan_faults
      ⊎ Rose before.output.faults now.output.faults ⊎ LacksChannel from before.host
