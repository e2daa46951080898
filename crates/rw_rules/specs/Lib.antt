pub mod Firing
pub mod Rules
