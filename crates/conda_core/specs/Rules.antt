-- What every list of events keeps. This project's own.
use Rattle.std.specs.Prelude.{◌≡◌, ℕ, false, List, slice_get, Some, None, IsTrue, is_some, ◌||◌}
use Rattle.conda_core.specs.declared.word.Word.{Word}
use Rattle.conda_core.specs.declared.seat.View.{View}
use Rattle.conda_core.specs.declared.env.CoreEnv.{CoreEnv}
use Rattle.conda_core.specs.declared.machine.Core.{Core}
use Rattle.conda_core.specs.SlotRule.{has, IsReadySlot, SlotRule}
use Rattle.conda_core.specs.Env.{last_set}
use Rattle.conda_core.specs.Machine.{pins_of}

-- the environment with this number keeps its rules, among these slots and seats
pub record EnvRules (slots : List Word) (seats : List View) (number : ℕ) (env : CoreEnv) : Type 0 where
  -- the slots of its last revision are pinned by its seat
  pub pinned : (i : ℕ) → IsTrue (has i (last_set env.revs)) → IsTrue (has i (pins_of seats number))
  -- and Ready
  pub ready : (i : ℕ) → IsTrue (has i (last_set env.revs)) → IsReadySlot slots i
  -- without an owner and not broken, it has the tree of its last revision
  pub at_rest : env.owner ≡ None → env.broken ≡ false → env.tree ≡ Some (last_set env.revs)
  -- a tree that is there is the set of the last revision, or empty if there is none
  pub tree : (t : List ℕ) → env.tree ≡ Some t → t ≡ last_set env.revs
  -- without its tree it has an owner or is broken
  pub no_tree : env.tree ≡ None → IsTrue (is_some env.owner || env.broken)

-- the rules of a core
pub record Rules (c : Core) : Type 0 where
  pub slots : SlotRule c.slots c.seats
  pub envs : (e : ℕ) (env : CoreEnv) → slice_get c.envs e ≡ Some env → EnvRules c.slots c.seats e env
