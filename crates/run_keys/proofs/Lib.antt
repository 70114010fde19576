-- each step of the master's procedures
pub mod Procedures
-- more claims
pub mod ClaimLists
-- rows that a plan sets
pub mod Rows
-- what a command draws
pub mod Drafting
-- each step of the master
pub mod Turns
-- each event of a run
pub mod Worlds
-- keys of the plans that are carried out
pub mod Unused
-- first records
pub mod Firsts
-- the keys of records
pub mod Keys
-- keys stay in use
pub mod Lasting
-- what the terminal sends
pub mod Halves
pub mod Uses
-- what leg hosts relay
pub mod Relayed
-- the whole claim, of its parts
pub mod Whole
-- what anchors send, and when
pub mod Opening
-- the keys of a plan that was carried out
pub mod Gone
-- what leg hosts put on the air
pub mod Passing
