pub mod Listings
pub mod Rules
