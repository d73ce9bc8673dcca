pub mod AscendingLemmas
pub mod CutLemmas
pub mod NumberLemmas
