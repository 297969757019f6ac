pub mod Choices
pub mod ByteLaws
pub mod CircleLaws
pub mod SignedLaws
pub mod Fields
pub mod Order
pub mod BytePartLaws
pub mod SignedBytes
