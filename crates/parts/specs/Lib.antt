pub mod Refusals
pub mod Drawings
pub mod Registers
pub mod Fresh
pub mod Moved
pub mod Takes
pub mod Latches
pub mod Reduced
