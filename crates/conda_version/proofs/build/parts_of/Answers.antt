use Rattle.std.proofs.Common.{sym}
use Rattle.conda_version.proofs.RunLemmas.{short_from_none}
use Rattle.conda_version.proofs.build.parts_of.Goals as goal

pub built-requires-clause-short : goal.built-requires-clause-short
built-requires-clause-short c = record { each = short_from_none 0 c.args.text.now (sym c.in_default-numeral_fault.ensures) }
