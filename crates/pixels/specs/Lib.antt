pub mod Maps
pub mod Pixels
pub mod Inner
