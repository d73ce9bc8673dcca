pub mod Reading
pub mod Texts
pub mod Rules
pub mod Back
pub mod Folds
pub mod Agreement
pub mod Shows
