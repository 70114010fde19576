pub mod SoFar
pub mod Telling
