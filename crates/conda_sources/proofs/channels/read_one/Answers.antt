use Rattle.std.proofs.Common.{refl}
use Rattle.conda_sources.specs.declared.error.SourceErr.TheVariants.{HostFault, Memory}
use Rattle.conda_sources.proofs.TextLemmas.{unread}
use Rattle.conda_sources.proofs.channels.read_one.Goals as goal

pub returns-in-Err-Failed-clause-read : goal.returns-in-Err-Failed-clause-read
returns-in-Err-Failed-clause-read g c = unread ((g.H.Host.state c.args.host.now).files c.args.root.now) c.args.name.now HostFault refl

pub returns-in-Err-Memory-clause-read : goal.returns-in-Err-Memory-clause-read
returns-in-Err-Memory-clause-read g c = unread ((g.H.Host.state c.args.host.now).files c.args.root.now) c.args.name.now Memory refl
