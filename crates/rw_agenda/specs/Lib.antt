pub mod CellIndex
pub mod Marks
pub mod Agenda
pub mod Worked
