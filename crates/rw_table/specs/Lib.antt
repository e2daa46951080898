pub mod Table
pub mod Line
pub mod Curve
