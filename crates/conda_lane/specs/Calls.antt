-- What a call makes of a lane's tree, where it is told. This project's own.
use Rattle.std.specs.Prelude.{Option, Some, None}
use Rattle.conda_device.specs.Tree.{Tree}

-- a tree is told now exactly where one was before, and the two are so
abbrev pub Leads : (Tree → Tree → Type 0) → Option Tree → Option Tree → Type 0
Leads R None None = Unit {0}
Leads R None (Some now) = ⊥
Leads R (Some before) None = ⊥
Leads R (Some before) (Some now) = R before now
