pub mod Order
pub mod Rounding
