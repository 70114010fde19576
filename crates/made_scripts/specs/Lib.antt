-- What the contracts of this crate and of those above it cite.
pub mod Draws
pub mod Turns
pub mod Scripts
pub mod Forms
