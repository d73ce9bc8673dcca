use Rattle.conda_sources.proofs.TextLemmas.{behind_answered, behind_unread}
use Rattle.conda_sources.proofs.channel.read_behind.Goals as goal

pub returns-in-Ok-clause-read : goal.returns-in-Ok-clause-read
returns-in-Ok-clause-read g c =
    behind_answered (g.C.Chan.files c.args.chan.now.inner) c.args.channel.now c.args.linux c.in-Ok.noarch c.parts_of.result
    c.in-Ok.ensures.read c.parts_of.ensures.parts

pub returns-in-Err-clause-read : goal.returns-in-Err-clause-read
returns-in-Err-clause-read g c =
    behind_unread (g.C.Chan.files c.args.chan.now.inner) c.args.channel.now c.args.linux c.in-Err.error c.in-Err.ensures.read
