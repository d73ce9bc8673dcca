pub mod Names
pub mod Order
pub mod Pools
pub mod Reached
pub mod Search
pub mod Gather
pub mod Walk
