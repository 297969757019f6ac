pub mod Every
pub mod TakeLaws
pub mod ReducedLaws
pub mod LatchLaws
pub mod RegisterLaws
pub mod RefusalLaws
pub mod SignedFields
