mod Common
pub mod Queues
pub mod Filling
pub mod Viewed
pub mod Judgement
pub mod CanPuts
pub mod Makes
pub mod Asking
pub mod Waking
pub mod Owning
pub mod Reaching
