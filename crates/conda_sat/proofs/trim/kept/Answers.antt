use Rattle.conda_sat.proofs.trim.kept.Goals as goal

pub returns : goal.returns
returns c = rw c.as_slice-inputs.ensures at c.in_ok-kept_inputs.ensures
