pub mod Paths
pub mod Bytes
pub mod Faults
pub mod Files
pub mod Dists
pub mod Slots
pub mod Lanes
