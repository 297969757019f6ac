pub mod Examples
pub mod Maps
pub mod Bytes
pub mod Pixels
