pub mod Turnover
pub mod Book
pub mod Text
pub mod Worked
