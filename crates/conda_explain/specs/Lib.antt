pub mod Shown
pub mod Renumbered
pub mod Report
