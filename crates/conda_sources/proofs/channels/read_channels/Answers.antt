use Rattle.std.proofs.Common.{List, ℕ, [], ◌∷◌, ◌++◌, Err, Ok, refl, sym, subst, drop, take, ◌+◌, ◌∙◌}
use Rattle.conda_device.specs.Channels.{Files}
use Rattle.conda_sources.specs.declared.error.SourceErr.TheVariants.{Memory}
use Rattle.conda_sources.proofs.HostLemmas.{reads_both, reads_none}
use Rattle.conda_sources.proofs.TextLemmas.{IsReadSoFar, ReadsChannels, ReadsOne, channels_more, channels_starved, channels_stop, names_more, names_round, none_read, went_well}
use Rattle.conda_sources.proofs.channels.read_channels.Goals as goal

pub loop-name-init : goal.loop-name-init
loop-name-init g c =
    let files : List ℕ → _ = (g.H.Host.state c.args.host.now).files c.args.root.now in
    record {
      read = subst (IsReadSoFar files []) (sym c.new-parts.ensures.items) (none_read files);
      reads = reads_none (g.H.Host.state c.args.host.now);
    }

pub returns-then-is_err-clause-read : goal.returns-then-is_err-clause-read
returns-then-is_err-clause-read g c = channels_starved ((g.H.Host.state c.args.host.now).files c.args.root.now) c.args.names.now Memory refl

pub returns-in-Err-clause-read : goal.returns-in-Err-clause-read
returns-in-Err-clause-read g c =
    let files : List ℕ → _ = (g.H.Host.state c.args.host.now).files c.args.root.now in
    let names : List (List ℕ) = c.args.names.now in
    let at : ℕ = c.loop-name.name-index in
    let name : List ℕ = c.name-item.result in
    subst (λ names. ReadsChannels files names (Err c.in-Err.error)) (names_round names at name c.loop-name-test.true c.name-item.is)
    (channels_stop files (take at names) name (drop (at + 1) names) _ c.in-Err.error c.loop-name.invariant.read
    (subst (λ fs. ReadsOne (fs c.args.root.now) name (Err c.in-Err.error)) c.loop-name.invariant.reads.files
    (subst (λ n. ReadsOne ((g.H.Host.state c.loop-name.host).files c.args.root.now) n (Err c.in-Err.error)) c.as_str.ensures c.in-Err.ensures.read)))

pub loop-name-preserved : goal.loop-name-preserved
loop-name-preserved g c =
    let files : List ℕ → _ = (g.H.Host.state c.args.host.now).files c.args.root.now in
    let names : List (List ℕ) = c.args.names.now in
    let at : ℕ = c.loop-name.name-index in
    let name : List ℕ = c.name-item.result in
    let parts = c.loop-name.parts.items in
    let put = went_well c.put_behind.result _ c.put_behind.ensures c.if-is_err.ensures.value in
    record {
      read = subst (λ names. IsReadSoFar files names c.put_behind.new.parts.items) (names_more names at name c.loop-name-test.true c.name-item.is)
          (subst (IsReadSoFar files (take at names ++ name ∷ [])) (sym put)
          (channels_more files (take at names) name parts c.in-Ok.more c.loop-name.invariant.read
          (subst (λ fs. ReadsOne (fs c.args.root.now) name (Ok c.in-Ok.more)) c.loop-name.invariant.reads.files
          (subst (λ n. ReadsOne ((g.H.Host.state c.loop-name.host).files c.args.root.now) n (Ok c.in-Ok.more)) c.as_str.ensures c.in-Ok.ensures.read))));
      reads = reads_both (g.H.Host.state c.args.host.now) (g.H.Host.state c.loop-name.host) (g.H.Host.state c.read_one.new.host)
          c.loop-name.invariant.reads c.in-Ok.ensures.reads;
    }
