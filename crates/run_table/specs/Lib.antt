-- what the past keeps of commands
pub mod View
-- which lines change it
pub mod Words
-- and the one by which a plan is carried out
pub mod Orders
-- what does not
pub mod Quiet
-- the two tables
pub mod SameTable
-- the commands whose answers are by it
pub mod Commands
