pub mod SessionLaws
pub mod PrintedLaws
pub mod ReadLaws
pub mod Sample
