pub mod Choose
pub mod Bytes
pub mod Circles
pub mod Fields
