pub mod Answering
pub mod Bounds
