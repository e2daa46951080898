pub mod Kept
pub mod Session
pub mod UnderWay
pub mod Begun
pub mod Spare
pub mod Touched
pub mod Edited
pub mod Next
