pub mod Statistics
pub mod Tally
pub mod Summary
