pub mod Snoc
pub mod Turns
