pub mod Job
pub mod Order
pub mod Seed
pub mod Program
pub mod Command
pub mod Plain
pub mod Worked
