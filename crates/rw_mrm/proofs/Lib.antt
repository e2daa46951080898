mod Least
mod Halves
mod Tables
mod Sums
mod Parts
