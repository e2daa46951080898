pub mod Lists
pub mod Waits
pub mod Ready
pub mod OneRun
pub mod Sinces
pub mod Frames
mod Reuses
pub mod Agains
mod StepEvents
pub mod Reruns
mod Lasts
pub mod SameRuns
mod SomeRun
mod Choices
pub mod Common
pub mod Placed
pub mod Passings
mod Openings
