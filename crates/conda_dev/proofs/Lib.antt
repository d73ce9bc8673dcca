pub mod TreeLemmas
pub mod GatherLemmas
pub mod PlaceLemmas
pub mod ShareLemmas
