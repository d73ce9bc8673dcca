pub mod AscendingLemmas
pub mod EntryLemmas
pub mod OrderLemmas
pub mod RuleLemmas
pub mod WalkLemmas
