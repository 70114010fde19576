pub mod Forms
pub mod Texts
pub mod Worlds
pub mod Taken
pub mod Adding
pub mod Lines
pub mod SoFar
