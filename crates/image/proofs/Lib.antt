pub mod LayLaws
pub mod WordLaws
