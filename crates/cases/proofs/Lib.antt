pub mod Table
pub mod Mistakes
