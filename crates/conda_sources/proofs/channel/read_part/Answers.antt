use Rattle.std.specs.Prelude.{option_map}
use Rattle.conda_sources.proofs.TextLemmas.{part_answered, part_unread}
use Rattle.conda_sources.proofs.channel.read_part.Goals as goal

pub returns-in-Ok-clause-read : goal.returns-in-Ok-clause-read
returns-in-Ok-clause-read g c =
    part_answered (g.C.Chan.files c.args.chan.now.inner) c.args.channel.now c.args.subdir.now (option_map (λ bytes. bytes.items) c.in-Ok.bytes)
    c.if_there.result c.in-Ok.ensures.text c.if_there.ensures.part

pub returns-in-Err-clause-read : goal.returns-in-Err-clause-read
returns-in-Err-clause-read g c =
    part_unread (g.C.Chan.files c.args.chan.now.inner) c.args.channel.now c.args.subdir.now c.in-Err.error c.in-Err.ensures.err
