pub mod Going
pub mod Coming
pub mod Moves
pub mod Filling
