-- of what the master's procedures have it do
pub mod Leading
-- of each step
pub mod Steps
-- of the lines of an event
pub mod Lines
-- in each run
pub mod Runs
