pub mod Words
pub mod Report
pub mod Searching
pub mod Solving
