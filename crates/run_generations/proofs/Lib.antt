-- what the master's procedures tell of plans, and what it puts on its control links
pub mod Telling
pub mod Taking
pub mod Putting
pub mod Masters
-- what the nodes have and send
pub mod Held
pub mod Orders
pub mod Sends
pub mod Keeping
pub mod Terminals
pub mod Seconds
-- in each event and in each run
pub mod Events
pub mod Runs
