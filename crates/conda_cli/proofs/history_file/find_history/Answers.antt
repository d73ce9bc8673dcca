use Rattle.conda_cli.proofs.FoundLemmas.{found_in_all}
use Rattle.conda_cli.proofs.history_file.find_history.Goals as goal

pub returns-clause-found : goal.returns-clause-found
returns-clause-found g c =
    found_in_all c.read_first.result
    ((g.H.Host.state c.args.host.now).told c.args.prefix.now) c.in-Ok.path 67108865 c.in-Ok.ensures.same c.read_first.ensures.node
