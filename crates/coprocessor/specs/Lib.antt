pub mod Fresh
pub mod Valid
pub mod Reads
pub mod Writes
pub mod Runs
pub mod Images
pub mod Inner
