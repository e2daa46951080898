pub mod Words
pub mod Memory
pub mod Seen
pub mod Steps
pub mod Parts
pub mod State
pub mod Fired
