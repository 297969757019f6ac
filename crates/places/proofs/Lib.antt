pub mod Columns
pub mod ModeLaws
