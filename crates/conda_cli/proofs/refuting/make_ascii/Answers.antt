use Rattle.std.proofs.Common.{arith}
use Rattle.conda_cli.proofs.LogLemmas.{ascii_more}
use Rattle.conda_cli.proofs.refuting.make_ascii.Goals as goal

pub loop-byte-preserved : goal.loop-byte-preserved
loop-byte-preserved c =
    ascii_more c.args.bytes.now c.loop-byte.bytes c.loop-byte.byte-index c.as_ascii.result c.loop-byte.invariant (omega arith) c.as_ascii.ensures
