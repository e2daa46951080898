pub mod Same
pub mod Fit
pub mod Blocks
pub mod Ruled
pub mod RunsOfCode
