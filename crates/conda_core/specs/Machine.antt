-- The core as a machine over events. This project's own.
use Rattle.std.specs.Prelude.{◌≡◌, ℕ, ◌+◌, Result, MatchResult, Bool, true, false, not, ◌&&◌, if◌then◌else◌, List, [], ◌∷◌, map, replicate, length, slice_get, slice_set, unwrap_or, Option, Some, None, is_some}
use Rattle.std.specs.Option.{option_map_or}
use Rattle.conda_core.specs.declared.word.SlotState.TheVariants.{Empty, Ready}
use Rattle.conda_core.specs.declared.word.SlotOp.{SlotOp}
use Rattle.conda_core.specs.declared.word.SlotOp.TheVariants.{Unpin}
use Rattle.conda_core.specs.declared.word.Word.{Word}
use Rattle.conda_core.specs.declared.seat.View.{View}
use Rattle.conda_core.specs.declared.env.CoreEnv.{CoreEnv}
use Rattle.conda_core.specs.declared.event.Event.{Event}
use Rattle.conda_core.specs.declared.event.Event.TheVariants.{Slot}
use Rattle.conda_core.specs.declared.machine.Core.{Core}
use Rattle.conda_core.specs.declared.machine.CoreErr.{CoreErr}
use Rattle.conda_core.specs.declared.machine.CoreErr.TheVariants.{NotEnabled, Memory}
use Rattle.conda_core.specs.SlotRule.{has}
use Rattle.conda_core.specs.Word.{next_word}
use Rattle.conda_core.specs.Seat.{no_lists, meets_need, next_view}
use Rattle.conda_core.specs.Env.{new_env, last_set, env_of, env_enabled, env_effect}

-- a slot that is Ready or Empty, and on which nobody counts
abbrev pub new_word : Bool → Word
new_word ready = record { state = if ready then Ready else Empty; count = 0 }

-- a core as it is made
abbrev pub new_core : List Bool → ℕ → ℕ → Core
new_core ready seats envs = record { slots = map new_word ready; seats = replicate seats no_lists; envs = replicate envs new_env }

-- the set of the last revision of the environment with this number, or the empty set
abbrev pub last_set_of : List CoreEnv → ℕ → List ℕ
last_set_of envs e = option_map_or (λ env. last_set env.revs) (slice_get envs e) []

-- what the seat with this number pins
abbrev pub pins_of : List View → ℕ → List ℕ
pins_of seats e = option_map_or (λ v. v.pins) (slice_get seats e) []

-- an unpin of a slot of this set, which is kept
abbrev pub is_kept : SlotOp → ℕ → List ℕ → Bool
is_kept Unpin i set = has i set
is_kept op i set = false

-- where a step on a slot is enabled, at the last revision's set, the lists of the seat and the word that are there
abbrev pub step_enabled : SlotOp → ℕ → List ℕ → Option View → Option Word → Bool
step_enabled op i set None w = false
step_enabled op i set (Some v) None = false
step_enabled op i set (Some v) (Some w) = meets_need op i v && not (is_kept op i set) && is_some (next_word w op)

-- where an event on an environment is enabled
abbrev pub env_event_enabled : List View → List CoreEnv → ℕ → Event → Bool
env_event_enabled seats envs number event =
    option_map_or (λ e. env_enabled (length seats) (pins_of seats number) e event) (slice_get envs number) false

-- where an event is enabled. One on a number that doesn't exist isn't
abbrev pub enabled : Core → Event → Bool
enabled c (Slot seat slot op) = step_enabled op slot (last_set_of c.envs seat) (slice_get c.seats seat) (slice_get c.slots slot)
enabled c event = env_event_enabled c.seats c.envs (env_of event) event

-- the words with the one that a step leaves in the slot
abbrev pub words_after : List Word → ℕ → SlotOp → Option Word → List Word
words_after slots i op None = slots
words_after slots i op (Some w) = slice_set slots i (unwrap_or (next_word w op) w)

-- the seats' lists with those that a step leaves, of a seat and of the word that was found
abbrev pub seats_after : List View → ℕ → ℕ → SlotOp → Option View → Option Word → List View
seats_after seats seat i op None w = seats
seats_after seats seat i op (Some v) None = seats
seats_after seats seat i op (Some v) (Some w) = slice_set seats seat (next_view w op i v)

-- the environments with the one that the event leaves
abbrev pub envs_after : List CoreEnv → ℕ → Event → List CoreEnv
envs_after envs number event = option_map_or (λ e. slice_set envs number (env_effect e event)) (slice_get envs number) envs

-- what an event that is enabled makes of the core
abbrev pub effect : Core → Event → Core
effect c (Slot seat slot op) =
    record {
      slots = words_after c.slots slot op (slice_get c.slots slot);
      seats = seats_after c.seats seat slot op (slice_get c.seats seat) (slice_get c.slots slot);
      envs = c.envs;
    }
effect c event = record c { envs = envs_after c.envs (env_of event) event }

-- how many events are applied before the first that isn't enabled
abbrev pub applied : List Event → Core → ℕ
applied [] c = 0
applied (e ∷ es) c = if enabled c e then applied es (effect c e) + 1 else 0

-- the core after these
abbrev pub after : List Event → Core → Core
after [] c = c
after (e ∷ es) c = if enabled c e then after es (effect c e) else c

-- an error is told: NotEnabled exactly where the event isn't enabled
abbrev pub IsCause : CoreErr → Bool → Type 0
IsCause NotEnabled is_enabled = is_enabled ≡ false
IsCause Memory is_enabled = is_enabled ≡ true

-- what a call does that applies an event with this effect where it is enabled
abbrev pub Applies : {U : Type 0} → Bool → Core → Core → Core → Result U CoreErr → Type 0
Applies is_enabled changed old new r =
    MatchResult r (λ _. (is_enabled ≡ true) × (new ≡ changed)) (λ e. IsCause e is_enabled × (new ≡ old))

-- the slot has the first word, of which the step makes the second
abbrev pub IsStep : SlotOp → List Word → ℕ → Word × Word → Type 0
IsStep op words i found = (slice_get words i ≡ Some found.0) × (next_word found.0 op ≡ Some found.1)
