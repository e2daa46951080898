mod Order
mod Watches
mod Words
mod Marking
pub mod Indexed
