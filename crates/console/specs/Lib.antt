pub mod Words
pub mod Digits
pub mod Commands
pub mod Gathered
pub mod Answers
pub mod Texts
