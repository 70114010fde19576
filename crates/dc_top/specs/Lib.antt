-- What the contracts of this crate cite.
pub mod Policies
pub mod Script
pub mod Steps
pub mod Run
pub mod Ended
pub mod SoFar
pub mod Command
