pub mod Crossings
pub mod Outlines
pub mod Fills
