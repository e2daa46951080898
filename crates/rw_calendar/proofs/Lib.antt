pub mod MomentFacts
pub mod ClockFacts
pub mod MomentsSoFar
pub mod TextFacts
pub mod TimestepFacts
pub mod Refusals
pub mod Answered
