pub mod SameLink
pub mod Flights
pub mod OwnInputs
pub mod Steps
pub mod Standing
pub mod Running
