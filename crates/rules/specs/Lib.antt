pub mod Operations
pub mod Maps
pub mod Codes
pub mod Rules
pub mod Starts
pub mod Going
pub mod Totals
