pub mod Lists
pub mod Best
pub mod Folders
pub mod Holders
pub mod Holding
pub mod Sorting
pub mod Naming
