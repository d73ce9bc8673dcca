pub mod Faults
pub mod Report
pub mod Answers
pub mod Refuting
pub mod Runs
pub mod Sourcing
pub mod Start
