-- An environment of the core: who owns it, its revisions and its tree, and the events on it. This project's own.
use Rattle.std.specs.Prelude.{ℕ, ◌-◌, Bool, true, false, not, ◌&&◌, ◌||◌, nat_lt, List, [], ◌∷◌, ◌++◌, length, slice_get, unwrap_or, Some, None, is_some, is_none}
use Rattle.std.specs.List.{list_all}
use Rattle.conda_core.specs.declared.env.CoreEnv.{CoreEnv}
use Rattle.conda_core.specs.declared.event.Event.{Event}
use Rattle.conda_core.specs.declared.event.Event.TheVariants.{Slot, Lock, Begin, Commit, Undo, Break, Mend, Unlock}
use Rattle.conda_core.specs.SlotRule.{has}

-- no owner, no revision and an empty tree
abbrev pub new_env : CoreEnv
new_env = record { owner = None; revs = []; tree = Some []; broken = false }

-- the set of the last revision, or the empty set if there is none
abbrev pub last_set : List (List ℕ) → List ℕ
last_set revs = unwrap_or (slice_get revs (length revs - 1)) []

-- it has an owner, isn't broken, and its tree isn't there: its owner changes it
abbrev pub is_open : CoreEnv → Bool
is_open e = is_some e.owner && not e.broken && is_none e.tree

-- where an event on the environment is enabled, among so many seats, with these pins of the environment's own seat
abbrev pub env_enabled : ℕ → List ℕ → CoreEnv → Event → Bool
env_enabled seats pins e (Slot seat slot op) = false
env_enabled seats pins e (Lock env by) = is_none e.owner && nat_lt by seats
env_enabled seats pins e (Begin env) = is_some e.owner && not e.broken && is_some e.tree
env_enabled seats pins e (Commit env set) = is_open e && list_all (λ i. has i pins) set
env_enabled seats pins e (Undo env) = is_open e
env_enabled seats pins e (Break env) = is_open e
env_enabled seats pins e (Mend env) = is_some e.owner && e.broken
env_enabled seats pins e (Unlock env) = is_some e.owner && (is_some e.tree || e.broken)

-- what an event that is enabled makes of the environment
abbrev pub env_effect : CoreEnv → Event → CoreEnv
env_effect e (Slot seat slot op) = e
env_effect e (Lock env by) = record e { owner = Some by }
env_effect e (Begin env) = record e { tree = None }
env_effect e (Commit env set) = record e { revs = e.revs ++ set ∷ []; tree = Some set }
env_effect e (Undo env) = record e { tree = Some (last_set e.revs) }
env_effect e (Break env) = record e { broken = true }
env_effect e (Mend env) = record e { tree = Some (last_set e.revs); broken = false }
env_effect e (Unlock env) = record e { owner = None }

-- the environment that an event is on; for a step on a slot, the one of its seat
abbrev pub env_of : Event → ℕ
env_of (Slot seat slot op) = seat
env_of (Lock env by) = env
env_of (Begin env) = env
env_of (Commit env set) = env
env_of (Undo env) = env
env_of (Break env) = env
env_of (Mend env) = env
env_of (Unlock env) = env
