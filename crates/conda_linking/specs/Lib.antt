pub mod Linking
pub mod Laws
