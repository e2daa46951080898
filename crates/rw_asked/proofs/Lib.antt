pub mod Plain
pub mod Follow
pub mod Fates
pub mod Reused
mod Alike
pub mod Telling
pub mod Texts
