use Rattle.conda_base.specs.Signs.{slash}
use Rattle.conda_path.proofs.SlotLemmas.{one_key_of}
use Rattle.conda_path.proofs.slot.one_key.Goals as goal

pub returns : goal.returns
returns c = one_key_of (record { first = c.cut_laws.ensures.first slash; last = c.cut_laws.ensures.last slash })
