pub mod Printed
pub mod Sample
pub mod Text
pub mod Inner
pub mod Played
