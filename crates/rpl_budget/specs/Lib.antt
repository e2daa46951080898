pub mod Budgets
pub mod Loads
pub mod Pass
pub mod Seen
