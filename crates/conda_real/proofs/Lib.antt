pub mod CauseLemmas
pub mod LentLemmas
