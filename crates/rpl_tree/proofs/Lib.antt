pub mod Framed
pub mod FramedTrees
pub mod Standing
pub mod Viewed
pub mod Common
pub mod PutsAhead
