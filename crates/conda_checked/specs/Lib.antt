pub mod Lacks
pub mod Reads
