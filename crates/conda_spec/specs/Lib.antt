pub mod Parts
pub mod Match
pub mod Text
pub mod Cuts
pub mod Reading
pub mod Good
pub mod Grammar
