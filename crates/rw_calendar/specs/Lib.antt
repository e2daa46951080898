pub mod Moment
pub mod Start
pub mod StepLength
pub mod Stamps
pub mod Clock
