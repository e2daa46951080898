pub mod IsView
