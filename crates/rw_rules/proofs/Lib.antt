mod Fires
mod Due
mod Made
mod Kept
