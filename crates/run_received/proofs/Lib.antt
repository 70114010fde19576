-- one uplink: PDUs are taken, more is submitted, COUNTs are confirmed
pub mod Receiving
-- of the latest establishment of an identity, as the past changes
pub mod Latest
-- what lines and events change of it
pub mod Noting
pub mod Judging
pub mod Folding
-- an uplink PDU comes to an active anchor
pub mod Arriving
-- the event of an outcome
pub mod Outcomes
-- what is claimed of one uplink
pub mod Claims
-- where the anchor is
pub mod Nodes
-- the whole step
pub mod Deliveries
-- the terminal's side
pub mod Terminals
-- what is on its way
pub mod Links
pub mod Coming
pub mod Planes
pub mod Keeping
-- each uplink after an event
pub mod Steps
pub mod Holding
pub mod Reports
pub mod Submitting
pub mod SubmitSteps
pub mod Quiet
-- anchors, as the control plane sees them, and who holds by the past
pub mod Views
-- an anchor that waits keeps a PDU
pub mod Waiting
