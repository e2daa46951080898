mod Common
pub mod Raises
pub mod Places
pub mod Notings
pub mod Events
pub mod Traces
pub mod Turns
pub mod Chosen
pub mod Steps
pub mod After
pub mod Firings
pub mod Records
pub mod Again
pub mod Backs
pub mod Oldest
pub mod Anyhow
pub mod Runs
