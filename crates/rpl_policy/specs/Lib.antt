pub mod Policy
pub mod Worked
pub mod Firings
