pub mod Links
pub mod Places
pub mod Scripts
pub mod Rules
