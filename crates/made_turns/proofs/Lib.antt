pub mod TurnKinds
pub mod Loaded
pub mod Own
