-- What the program answers, and why. This project's own.
use Rattle.std.specs.Prelude.{◌≡◌, ◌⊎◌, ℕ, ◌<◌, ◌≤◌, ◌↔◌, List, [], length, take, codes, Option, Some, None, option_map, IfSome, Result, Ok, Err, String, string_bytes}
use Rattle.std.specs.declared.alloc.Global.{Global}
use Rattle.std.specs.FinMap as map
use Rattle.conda_base.specs.Texts.{Ascending}
use Rattle.conda_dev.specs.Fault.{Rose}
use Rattle.conda_device.specs.declared.fault.DeviceErr.{DeviceErr}
use Rattle.conda_device.specs.declared.fault.DeviceErr.TheVariants as lane
use Rattle.conda_dev.specs.Hosts.{HostState}
use Rattle.conda_dev.specs.Streams.{OutState, appended}
use Rattle.conda_dev.specs.Tree.{Tree}
use Rattle.conda_history.specs.Blocks.{IsBadAt, IsHistory}
use Rattle.conda_history.specs.Sets.{IsIn, IsLeft, changes_of}
use Rattle.conda_history.specs.declared.revision.Block.{Block}
use Rattle.conda_cli.specs.declared.fault.Fault.{Fault}
use Rattle.conda_cli.specs.declared.fault.Fault.TheVariants.{NoEnv, LongHistory, BadHistory, EnvFault, HostFault, Memory}
use Rattle.conda_cli.specs.Faults.{fault_text, status_of}
use Rattle.conda_cli.specs.Report.{IsByName, list_text, revisions_text}

-- a status, and the text that is put out
pub record Answer : Type 0 where
  pub status : ℕ
  pub text : List ℕ

-- a fault, in a run on this prefix
abbrev pub refusal : Fault → List ℕ → Answer
refusal fault prefix = record { status = status_of fault; text = fault_text fault prefix }

-- the dists, in a run on this prefix
abbrev pub report : List ℕ → List (List ℕ) → Answer
report prefix dists = record { status = 0; text = list_text prefix dists }

-- the text of a report, or a fault, in a run on this prefix
abbrev pub answer_of : Result (String Global) Fault → List ℕ → Answer
answer_of (Ok text) prefix = record { status = 0; text = string_bytes text }
answer_of (Err fault) prefix = refusal fault prefix

-- ---- what a command answers that reports on a history

-- the most bytes of a history
abbrev pub history_limit : ℕ
history_limit = 67108864

-- the text of a tree's history
abbrev pub history_in : Tree → Option (List ℕ)
history_in tree = option_map (λ node. node.bytes) (map.get tree (codes "conda-meta/history"))

-- why there is no report: the history is absent, or longer than the limit, or a line of it is the first bad one
abbrev pub IsCause : Option (List ℕ) → Fault → Type 0
IsCause None fault = fault ≡ NoEnv
IsCause (Some text) fault =
    ((history_limit < length text) × (fault ≡ LongHistory))
    ⊎ ((line : ℕ) × (length text ≤ history_limit) × IsBadAt text line × (fault ≡ BadHistory line))

-- the history is there, no longer than the limit, and has these blocks
abbrev pub IsGood : Option (List ℕ) → List Block → Type 0
IsGood found blocks = (text : List ℕ) × (found ≡ Some text) × (length text ≤ history_limit) × IsHistory text blocks

-- the report of this kind on the history, or why there is none
abbrev pub IsReported : (List Block → Answer → Type 0) → List ℕ → Option (List ℕ) → Answer → Type 0
IsReported Is prefix found answer =
    ((fault : Fault) × IsCause found fault × (answer ≡ refusal fault prefix))
    ⊎ ((blocks : List Block) × IsGood found blocks × Is blocks answer)

-- the dists that the blocks leave, ascending, each once
pub record IsSetOf (blocks : List Block) (set : List (List ℕ)) : Type 0 where
  pub members : (dist : List ℕ) → IsIn dist set ↔ IsLeft blocks dist
  pub ascending : Ascending set

-- the report of `list`: of the set that the blocks leave
abbrev pub IsReportOf : List ℕ → List Block → Answer → Type 0
IsReportOf prefix blocks answer =
    (set : List (List ℕ)) × (dists : List (List ℕ)) × IsSetOf blocks set × IsByName set dists × (answer ≡ report prefix dists)

-- the report of `list --revisions`: of what each block changes in the set
abbrev pub IsRevisionsOf : List Block → Answer → Type 0
IsRevisionsOf blocks answer = answer ≡ record { status = 0; text = revisions_text (changes_of blocks) }

-- ---- what a run meets

-- what the host and the output tell of themselves
pub record Told : Type 0 where
  pub host : HostState
  pub output : OutState

-- what an input tells of itself: what is left, where it tells it, and its count of faults
pub record InputState : Type 0 where
  pub left : Option (List ℕ)
  pub faults : ℕ

abbrev pub input_state : {I : Type 0} → (I → Option (List ℕ)) → (I → ℕ) → I → InputState
input_state left faults input = record { left = left input; faults = faults input }

-- the very host, clock and input of a run, and what they and the output tell
pub record Devices (H K I : Type 0) : Type 0 where
  pub host : H
  pub clock : K
  pub input : I
  pub told : Told
  pub heard : InputState

abbrev pub devices : {H K I O : Type 0} → (H → HostState) → (I → InputState) → (O → OutState) → H → K → I → O → Devices H K I
devices of_host of_input of_output host clock input output =
    record { host = host; clock = clock; input = input; told = record { host = of_host host; output = of_output output }; heard = of_input input }

-- ---- why

-- a fault of which the count rose, or want of memory
abbrev pub IsFaultOf : HostState → HostState → Fault → Type 0
IsFaultOf before now HostFault = Rose before.faults now.faults
IsFaultOf before now EnvFault = Rose before.lane_faults now.lane_faults
IsFaultOf before now Memory = Unit {0}
IsFaultOf before now _ = ⊥

-- what a lane's answer is in a run
abbrev pub lane_answer : {T : Type 0} → Result T DeviceErr → Result T Fault
lane_answer (Ok x) = Ok x
lane_answer (Err lane.Failed) = Err EnvFault
lane_answer (Err lane.Memory) = Err Memory

-- A run that reports on a history answers by it, the tree's where it is told; or a fault of which the count rose; or
-- that there was no memory.
abbrev pub IsReportAnswer : (List Block → Answer → Type 0) → List ℕ → HostState → HostState → Answer → Type 0
IsReportAnswer Is prefix before now answer =
    ((found : Option (List ℕ)) × IfSome (before.told prefix) (λ tree. found ≡ history_in tree) × IsReported Is prefix found answer)
    ⊎ ((fault : Fault) × IsFaultOf before now fault × (answer ≡ refusal fault prefix))

-- all of an answer's text was put, and its status is the run's
abbrev pub IsPut : Answer → ℕ → OutState → OutState → Type 0
IsPut answer status before now = (status ≡ answer.status) × (now.told ≡ appended before.told answer.text)

-- an answer was given: it was put; or the output failed, some first part of the text was put, and the status is 3
abbrev pub IsGiven : Answer → ℕ → OutState → OutState → Type 0
IsGiven answer status before now =
    IsPut answer status before now
    ⊎ ((status ≡ 3) × Rose before.faults now.faults × (n : ℕ) × (now.told ≡ appended before.told (take n answer.text)))

-- some answer of this kind was given
abbrev pub AnswersWith : (Answer → Type 0) → ℕ → OutState → OutState → Type 0
AnswersWith IsIt status before now = (answer : Answer) × IsIt answer × IsGiven answer status before now

-- this fault's line, or that there was no memory
abbrev pub IsRefusal : Fault → Answer → Type 0
IsRefusal fault answer = (answer ≡ refusal fault []) ⊎ (answer ≡ refusal Memory [])

-- ---- a run that reports on a history

-- no count of faults rises
pub record IsQuiet (before now : Told) : Type 0 where
  pub host : ¬ Rose before.host.faults now.host.faults
  pub lanes : ¬ Rose before.host.lane_faults now.host.lane_faults
  pub chans : ¬ Rose before.host.chan_faults now.host.chan_faults
  pub output : ¬ Rose before.output.faults now.output.faults

-- an answer of this kind was put; or there was no memory
abbrev pub EndsWith : (Answer → Type 0) → ℕ → OutState → OutState → Type 0
EndsWith IsIt status before now = ((answer : Answer) × IsIt answer × IsPut answer status before now) ⊎ (status ≡ 5)

-- What such a run does, of a prefix whose tree is told, where no count of faults rises. Each answer comes exactly where
-- it is due: that there is no environment, that its history is too long or bad, and the report.
pub record ReportsExactly (Is : List Block → Answer → Type 0) (prefix : List ℕ) (found : Option (List ℕ)) (status : ℕ) (before now : OutState) : Type 0 where
  pub refused : (fault : Fault) → IsCause found fault → EndsWith (λ answer. answer ≡ refusal fault prefix) status before now
  pub reported : (blocks : List Block) → IsGood found blocks → EndsWith (Is blocks) status before now
  pub absent_only : status ≡ 1 → found ≡ None
  pub bad_only : status ≡ 2 → (fault : Fault) × IsCause found fault × (status_of fault ≡ 2)
  pub good_only : status ≡ 0 → (blocks : List Block) × IsGood found blocks

-- what a run on a prefix tells that gives reports of this kind
pub record Reports (Is : List Block → Answer → Type 0) (prefix : List ℕ) (status : ℕ) (before now : Told) : Type 0 where
  -- some answer is given, with its cause
  pub answers : AnswersWith (IsReportAnswer Is prefix before.host now.host) status before.output now.output
  pub exactly : (tree : Tree) → before.host.told prefix ≡ Some tree → IsQuiet before now
      → ReportsExactly Is prefix (history_in tree) status before.output now.output
  -- a fault only where a count rose
  pub faults : status ≡ 3 → Rose before.host.faults now.host.faults ⊎ Rose before.host.lane_faults now.host.lane_faults
      ⊎ Rose before.output.faults now.output.faults
