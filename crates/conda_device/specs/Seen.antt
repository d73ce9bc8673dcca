-- What a look shows of a node. This project's own.
use Rattle.std.specs.Prelude.{length}
use Rattle.conda_path.specs.declared.values.Node.{Node}
use Rattle.conda_device.specs.declared.lane.Seen.{Seen}

-- its kind, and the number of its bytes
abbrev pub seen_of : Node → Seen
seen_of node = record { kind = node.kind; size = length node.bytes }
