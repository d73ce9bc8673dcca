pub mod Word
pub mod SlotRule
pub mod Seat
pub mod Env
pub mod Machine
pub mod Rules
