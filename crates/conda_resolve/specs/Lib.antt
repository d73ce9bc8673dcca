pub mod Choice
pub mod Answer
pub mod Asking
