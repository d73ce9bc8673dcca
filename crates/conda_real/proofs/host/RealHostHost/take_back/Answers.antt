use Rattle.std.proofs.Common.{refl, rules, sym}
use Rattle.conda_real.proofs.LentLemmas.{together_none}
use Rattle.conda_real.proofs.host.RealHostHost.take_back.Goals as goal

pub returns : goal.returns
returns g c = record {
  tree = sym (together_none c.args.lanes.items c.requires.some);
  others = λ other ne. refl;
  returned = c.forget.ensures;
  lane_faults = search rules;
  faults = refl;
  handles = record { files = refl; gots = refl; chan_faults = refl; store_faults = refl };
}
