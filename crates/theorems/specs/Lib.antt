pub mod Totals
pub mod Cuts
pub mod LoadsTo
pub mod One
pub mod Lively
pub mod Reach
pub mod BoardCuts
