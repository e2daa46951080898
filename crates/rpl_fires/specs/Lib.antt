pub mod Fired
