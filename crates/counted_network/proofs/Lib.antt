pub mod Events
pub mod Happening
