pub mod Changes
pub mod Undo
pub mod Calls
pub mod Purge
pub mod Steps
pub mod Supplies
pub mod Shares
