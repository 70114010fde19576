-- what is held
pub mod Held
-- what anchors and leg hosts send
pub mod Anchors
pub mod Arrivals
pub mod Hosts
-- what each node sends
pub mod MasterSends
pub mod SecondSends
pub mod TerminalKinds
-- a run
pub mod Lines
pub mod Standing
-- which links the lines of an event are on
pub mod OnLinks
-- the records that each node sends
pub mod Records
pub mod MasterRecords
pub mod MasterFits
pub mod SecondRecords
-- the claims
pub mod Uplinks
pub mod Classes
