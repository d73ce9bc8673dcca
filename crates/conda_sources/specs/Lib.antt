pub mod Asked
pub mod Channels
pub mod Reading
pub mod Virtuals
pub mod Sources
