pub mod OwnInputs
pub mod Scripts
mod Calls
mod Rows1
mod Rows2
mod Rows3
mod Rows4
