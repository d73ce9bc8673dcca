pub mod Plan
pub mod Entries
pub mod Given
pub mod Folders
pub mod Reads
pub mod Handles
