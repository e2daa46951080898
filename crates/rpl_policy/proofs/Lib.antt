pub mod FramedCode
pub mod Asking
mod CodePolicy
pub mod Verified
