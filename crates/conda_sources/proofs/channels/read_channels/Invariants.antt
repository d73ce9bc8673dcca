use Rattle.std.proofs.Common.{take}
use Rattle.conda_sources.specs.Sources.{OnlyReads}
use Rattle.conda_sources.proofs.TextLemmas.{IsReadSoFar}
use Rattle.conda_sources.proofs.channels.read_channels.Given as goal

abbrev pub invariant-loop-name : goal.invariant-loop-name
invariant-loop-name g l = record {
  read : IsReadSoFar ((g.H.Host.state l.fn.host).files l.root) (take l.name-index l.names) l.parts.items;
  reads : OnlyReads (g.H.Host.state l.fn.host) (g.H.Host.state l.host);
}
