pub mod Holding
pub mod Keys
pub mod Firsts
pub mod Numbers
pub mod Facts
pub mod Pieces
