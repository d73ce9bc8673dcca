pub mod Text
pub mod Versions
pub mod Grammar
pub mod Order
pub mod Spans
