pub mod PlaceLaws
pub mod WriteLaws
pub mod ImageRules
pub mod SafeLaws
pub mod KnownRuns
pub mod Opened
