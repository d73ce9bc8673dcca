pub mod Signs
pub mod Texts
pub mod Numbers
pub mod Reads
