pub mod Shelf
pub mod Supplies
