-- what sends put on a link
pub mod Puts
-- what the entity of a bearer at the terminal sends
pub mod Halves
-- what the steps of a past leave of them
pub mod Traffic
-- the next number, with one PDU more
pub mod Next
-- lines whose PDUs have the next numbers
pub mod Lines
-- what is held by identities, after one of them sent more
pub mod Holding
-- each step of a bearer at the terminal
pub mod Sending
-- what the terminal sends
pub mod Terminals
-- the lines of an outcome
pub mod Outcomes
-- runs
pub mod Runs
-- packets for a host
pub mod Packets
-- what the entity of a bearer at its anchor sends
pub mod AnchorLegs
-- each step of an anchor
pub mod Anchors
-- each step of a leg host
pub mod Hosts
-- so it follows on from what the node sent before
pub mod Following
-- all anchors and leg hosts of a node
pub mod Bearers
-- what is forwarded
pub mod Forwarding
-- each step of a secondary node but those of plans
pub mod Seconds
-- a secondary node that carries a plan out
pub mod SecondItems
