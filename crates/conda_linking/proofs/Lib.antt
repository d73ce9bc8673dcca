pub mod DistLemmas
pub mod GoodLemmas
pub mod PartLemmas
pub mod StepLemmas
pub mod LinkLemmas
pub mod FoldLemmas
pub mod OnlyLemmas
