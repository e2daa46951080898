pub mod FirstForm
pub mod Reservoir
pub mod Table
