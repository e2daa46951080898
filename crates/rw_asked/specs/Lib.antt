pub mod Asked
pub mod Words
pub mod Worked
