use Rattle.std.proofs.Common.{refl, ap}
use Rattle.conda_cli.proofs.RunLemmas.{starved_runs}
use Rattle.conda_cli.proofs.runs.run.Goals as goal

pub returns-in-Err-Memory : goal.returns-in-Err-Memory
returns-in-Err-Memory g c =
    starved_runs _ _ _ _ (record {
      answers = c.refuse-in-Err-Memory.ensures.answers;
      host = c.refuse-in-Err-Memory.ensures.host;
      told = ap g.H.Host.state c.refuse-in-Err-Memory.ensures.host;
      unread = record { clock = refl; input = refl };
    })
