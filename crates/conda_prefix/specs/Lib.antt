pub mod Text
pub mod Binary
