pub mod ListLemmas
pub mod PathLemmas
pub mod MapLemmas
pub mod GoingLemmas
pub mod MoveLemmas
