-- What an answer of this crate's names.
use Rattle.std.specs.Prelude.{Option, None, Some}
use Rattle.conda_refute.specs.declared.log.Log.{Log}
use Rattle.conda_resolve.specs.declared.error.ResolveErr.{ResolveErr}
use Rattle.conda_resolve.specs.declared.error.ResolveErr.TheVariants.{Memory, Unsat}

-- the refutation that a "no" gives; want of memory gives none
abbrev pub log_of : ResolveErr → Option Log
log_of (Unsat log) = Some log
log_of Memory = None
