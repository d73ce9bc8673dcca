pub mod PathLemmas
pub mod DistLemmas
pub mod SlotLemmas
pub mod LaneLemmas
pub mod InsideLemmas
pub mod FileLemmas
