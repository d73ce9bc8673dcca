pub mod ListLemmas
pub mod SlotLemmas
pub mod StepLemmas
pub mod RuleLemmas
pub mod RunLemmas
pub mod ViewLemmas
