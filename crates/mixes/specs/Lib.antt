pub mod Mixes
pub mod Conditions
pub mod Inner
