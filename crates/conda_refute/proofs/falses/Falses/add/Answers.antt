use Rattle.std.proofs.Common.{ℤ, SFits, w64, to_z-of_z, rules}
use Rattle.conda_refute.specs.Literals.{has}
use Rattle.conda_refute.proofs.Same.{has_added}
use Rattle.conda_refute.proofs.falses.Falses.add.Goals as goal

pub returns : goal.returns
returns c = λ (q : ℤ).
    let fits : SFits w64 c.args.literal = search rules in
    has_added c.args.literal q (has c.args.self.now q) (has c.insert.new.self.keys q) (rw c.self.view_is at (simp to_z-of_z at (c.in_ok-insert.ensures.updates.0 q)))
