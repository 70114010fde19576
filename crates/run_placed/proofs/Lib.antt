-- lines that say nothing of it
mod Beside
-- the notes of a plan
mod Settings
-- a plan that the terminal takes
mod Taken
-- each event
pub mod Placed
-- the flight that is given
mod Givens
-- reasons of what a secondary node notes of itself
mod Reasons
-- the lines of a step of one
mod OwnLines
-- a record that one takes
mod SecondRecords
-- each event, of secondary nodes
pub mod Seconds
