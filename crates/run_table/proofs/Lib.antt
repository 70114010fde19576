-- what the steps of the past do to the table
pub mod Views
-- the lines that do
pub mod LineWords
-- all that does not
pub mod Quiet
pub mod Others
pub mod Beside
-- the rows of both tables
pub mod Rows
pub mod Carried
pub mod Drafting
pub mod Fitting
-- the procedures of the master
pub mod Procs
pub mod Beginnings
pub mod Records
-- a run
pub mod Steps
pub mod Tunnels
pub mod Runs
pub mod Spent
pub mod Causes
pub mod Orders
