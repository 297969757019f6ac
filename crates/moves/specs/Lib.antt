pub mod Turns
pub mod Decoded
pub mod Steps
pub mod Moves
pub mod Inner
