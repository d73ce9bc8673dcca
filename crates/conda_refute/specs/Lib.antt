pub mod Faults
pub mod Left
pub mod Literals
pub mod LogText
pub mod Reader
pub mod Refutation
