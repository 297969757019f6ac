pub mod Calls
pub mod Cases
pub mod Mistakes
pub mod Examples
