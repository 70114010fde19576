-- what anchors and leg hosts send and keep
pub mod AnchorSends
pub mod Arrivals
pub mod Hosts
-- what each node sends and keeps
pub mod Held
pub mod MasterSteps
pub mod SecondSteps
-- what is read of a past grows
pub mod Growing
pub mod Drawing
pub mod Pasts
-- what the terminal sends
pub mod FromTerminal
-- a run
pub mod Steps
pub mod Lines
pub mod Runs
pub mod Packets
pub mod Keeping
-- the claim
pub mod Views
pub mod Contexts
pub mod Claimed
pub mod Protecting
pub mod ClaimRuns
pub mod Small
-- setups
pub mod Cores
pub mod ActPlans
pub mod Planned
pub mod MasterSets
pub mod SecondSets
pub mod Drawn
pub mod MasterTurn
pub mod SetEvents
pub mod SetRuns
pub mod Elsewhere
pub mod Directions
pub mod UplinkRuns
pub mod KeptSdus
pub mod Timely
pub mod Ages
