mod CasesLemmas
mod InputLemmas
mod LedgerLemmas
mod SidesLemmas
