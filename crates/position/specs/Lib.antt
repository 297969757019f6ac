pub mod Fates
pub mod Drawn
pub mod Within
pub mod Inner
