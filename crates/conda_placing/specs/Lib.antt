pub mod Placing
pub mod Content
pub mod Refusals
