mod Common
pub mod Comparison
pub mod Quotient
pub mod Line
pub mod Order
pub mod Chain
pub mod Volume
pub mod Count
pub mod Elevation
pub mod Judgement
pub mod Laws
