mod Kept
pub mod Latest
