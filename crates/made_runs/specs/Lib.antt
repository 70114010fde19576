-- What the contracts of this crate and of those above it cite.
pub mod Running
pub mod Made
pub mod Written
