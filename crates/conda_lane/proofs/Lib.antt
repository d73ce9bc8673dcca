pub mod Lists
pub mod UndoLemmas
pub mod WalkLemmas
pub mod StepLemmas
pub mod EffectLemmas
pub mod PurgeLemmas
pub mod SupplyLemmas
pub mod ShareLemmas
