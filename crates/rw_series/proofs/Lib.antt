pub mod Places
pub mod Blank
pub mod SlotColumns
pub mod Setting
pub mod Sharing
pub mod Bounds
mod Rows
