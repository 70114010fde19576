-- What the contracts of this crate and of those above it cite.
pub mod Totals
pub mod Summed
pub mod Texts
