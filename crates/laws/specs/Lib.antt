pub mod Held
pub mod ReadBack
