pub mod Behind
pub mod Examples
pub mod Plain
pub mod Safety
pub mod Writing
