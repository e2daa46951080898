pub mod Growing
pub mod Runs
pub mod Listing
pub mod Worked
pub mod Keeping
pub mod Adding
pub mod Handing
