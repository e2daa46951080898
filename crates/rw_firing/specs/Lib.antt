pub mod Fire
