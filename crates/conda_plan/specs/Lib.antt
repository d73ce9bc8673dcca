pub mod Packages
pub mod Planning
pub mod Law
