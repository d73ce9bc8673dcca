pub mod BadLines
pub mod Law
pub mod ReadBack
pub mod Lists
pub mod Same
pub mod Shown
pub mod Hints
pub mod Steps
