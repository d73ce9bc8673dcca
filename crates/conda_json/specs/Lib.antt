pub mod Json
pub mod Fields
pub mod Shown
