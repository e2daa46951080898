pub mod Simple
pub mod Paths
pub mod Plain
pub mod Sample
pub mod Worked
