pub mod Entries
pub mod Parts
pub mod Ascending
pub mod Reading
pub mod Rules
