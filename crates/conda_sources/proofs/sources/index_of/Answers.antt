use Rattle.std.proofs.Common.{All, subst, sym}
use Rattle.conda_index.specs.Pools.{NamesPlainly, given}
use Rattle.conda_sources.specs.Virtuals as virtuals
use Rattle.conda_sources.proofs.SourceLemmas.{no_memory, read_plain}
use Rattle.conda_sources.proofs.sources.index_of.Goals as goal

pub returns-in_err-virtuals-clause-index : goal.returns-in_err-virtuals-clause-index
returns-in_err-virtuals-clause-index g c =
    no_memory ((g.H.Host.state c.args.host.now).files c.args.command.now.channel_dir) c.args.command.now.channels
    (virtuals.virtual_list c.args.command.now.virtuals) c.from_residual.result c.from_residual.ensures.1

pub make-requires-clause-plain : goal.make-requires-clause-plain
make-requires-clause-plain g c κs within =
    let read = c.in_ok-read_channels.ensures.read in
    subst (λ parts. All NamesPlainly (given parts)) (sym c.into_vec-parts.ensures)
    (read_plain (record {
      bytes = c.repodata_laws.ensures.bytes;
      read = c.record_laws.ensures.read;
      well_formed = c.record_laws.ensures.well_formed;
      plain = c.index_laws.ensures.plain;
    }) read.0 c.in_ok-read_channels.field-0 read.2)
