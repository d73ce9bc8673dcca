pub mod PathLemmas
pub mod NumberLemmas
pub mod CountLemmas
pub mod TurnLemmas
pub mod ChangeLemmas
pub mod ApartLemmas
pub mod LaneLemmas
pub mod ShareLemmas
