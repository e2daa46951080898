pub mod Noted
pub mod Notes
pub mod Marks
pub mod HeldList
pub mod Record
pub mod InOrder
pub mod Back
pub mod Worked
