pub mod Granted
mod Marking
