pub mod ReadLemmas
pub mod SolveLemmas
