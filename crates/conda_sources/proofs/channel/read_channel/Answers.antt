use Rattle.std.proofs.Common.{inl, refl, subst}
use Rattle.conda_sources.proofs.TextLemmas.{ReadsBehind, asks_once, asks_twice, channel_answered, linux_unread}
use Rattle.conda_sources.specs.Channels as channels
use Rattle.conda_sources.proofs.channel.read_channel.Goals as goal

pub returns-in-Ok-clause-read : goal.returns-in-Ok-clause-read
returns-in-Ok-clause-read g c =
    channel_answered (g.C.Chan.files c.args.chan.now.inner) c.args.channel.now c.in-Ok.linux c.read_behind.result c.in-Ok.ensures.read
    (subst (λ files. ReadsBehind files c.args.channel.now c.in-Ok.linux c.read_behind.result) c.read_part.ensures.files c.read_behind.ensures.read)

pub returns-in-Ok-clause-asked : goal.returns-in-Ok-clause-asked
returns-in-Ok-clause-asked g c =
    asks_twice (g.C.Chan.asked c.args.chan.now.inner) (g.C.Chan.asked c.read_part.new.chan.inner) (g.C.Chan.asked c.read_behind.new.chan.inner)
    c.read_part.ensures.asked c.read_behind.ensures.asked

pub returns-in-Err-clause-read : goal.returns-in-Err-clause-read
returns-in-Err-clause-read g c = linux_unread (g.C.Chan.files c.args.chan.now.inner) c.args.channel.now c.in-Err.error c.in-Err.ensures.read

pub returns-in-Err-clause-asked : goal.returns-in-Err-clause-asked
returns-in-Err-clause-asked g c =
    asks_once (g.C.Chan.asked c.args.chan.now.inner) (g.C.Chan.asked c.read_part.new.chan.inner) (channels.repodata_path channels.linux_64) (inl refl)
    c.in-Err.ensures.asked
