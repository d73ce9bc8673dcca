-- The nodes of one share, out of what several lanes have. This project's own.
use Rattle.std.specs.Prelude.{ℕ, List, Option, Some, None, ◌==◌, if◌then◌else◌}
use Rattle.conda_path.specs.declared.values.Node.{Node}
use Rattle.conda_path.specs.Lanes.{lane_number}

-- the first of two, where it is there
abbrev pub first_of : Option Node → Option Node → Option Node
first_of None second = second
first_of (Some node) second = Some node

-- what stands at a path, where this lies in the share of this number, of so many
abbrev pub in_share : ℕ → ℕ → List ℕ → Option Node → Option Node
in_share number lanes path node = if lane_number path lanes == number then node else None
