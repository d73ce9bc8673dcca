pub mod LinkLemmas
pub mod RuleLemmas
pub mod LongLemmas
