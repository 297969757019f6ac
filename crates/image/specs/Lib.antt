pub mod Counters
pub mod Layout
pub mod Bank
pub mod Fields
pub mod Read
pub mod Inner
