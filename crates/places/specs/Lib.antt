pub mod Decoded
pub mod Places
pub mod Inner
