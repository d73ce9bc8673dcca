use Rattle.std.proofs.Common.{◌^◌, arith}
use Rattle.conda_base.specs.Signs.{dot}
use Rattle.conda_path.proofs.LaneLemmas.{Laws, trash_back, trash_is}
use Rattle.conda_path.proofs.lane.trash_laws.Goals as goal

pub returns : goal.returns
returns c =
    let laws : Laws = record {
      number = λ text n. c.number_laws.ensures.number (2 ^ 64) text n (omega arith);
      cut = c.cut_laws.ensures.first dot;
    } in
    record { number = trash_is laws; only = trash_back laws }
