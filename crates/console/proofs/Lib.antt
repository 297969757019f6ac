pub mod DigitLaws
pub mod WideLaws
pub mod WordLaws
pub mod GatherLaws
pub mod TextLaws
pub mod Examples
