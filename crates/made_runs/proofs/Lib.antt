pub mod Runs
pub mod Upto
pub mod Draining
pub mod Turns
pub mod Texts
pub mod Limits
pub mod Ending
