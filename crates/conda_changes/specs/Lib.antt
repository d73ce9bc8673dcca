pub mod Moves
pub mod Paths
pub mod Trash
pub mod Counting
pub mod Shares
