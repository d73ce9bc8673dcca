use Rattle.conda_refute.proofs.ReadBack.{same_text}
use Rattle.conda_refute.proofs.log.Log.text.Goals as goal

pub returns-in-Ok-clause-again : goal.returns-in-Ok-clause-again
returns-in-Ok-clause-again c =
    λ is other other_is same.
    same_text c.args.self.now other _ is (rw (c.as_slice.ensures, c.as_slice-2.ensures) at c.in-Ok.ensures) other_is same
