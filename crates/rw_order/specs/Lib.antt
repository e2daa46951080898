pub mod Free
pub mod AnyRun
pub mod Inside
pub mod Worked
