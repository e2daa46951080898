pub mod Forms
pub mod Lists
pub mod Words
pub mod Utf8
pub mod Basins
mod Depths
mod Migrating
