-- what the answers share
pub mod Cases
pub mod Maps
pub mod Moves
pub mod Turns
