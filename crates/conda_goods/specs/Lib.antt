pub mod Goods
pub mod Conflicts
pub mod Claims
