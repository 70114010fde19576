-- what a step of the past does
pub mod Seeing
-- the lines of an event
pub mod Lines
-- a secondary node
pub mod Own
pub mod Acts
pub mod SecondSteps
-- a run
pub mod Others
pub mod Runs
-- the claims
pub mod Answering
