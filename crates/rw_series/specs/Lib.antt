pub mod Kept
pub mod Columns
pub mod Cells
pub mod Series
