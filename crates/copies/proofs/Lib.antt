pub mod Positions
pub mod Copying
pub mod Copied
pub mod Transfers
pub mod Examples
