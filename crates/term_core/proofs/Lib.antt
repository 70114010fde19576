-- what the answers share
pub mod Halves
pub mod Steps
pub mod Readings
