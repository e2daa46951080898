mod Placed
mod OneStep
mod Closing
