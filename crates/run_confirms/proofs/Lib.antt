-- the promise of a delivery status, and what it confirms
pub mod Statuses
-- what came in a tunnel, and the delivery status of it
pub mod Arrivals
-- the host of a leg
pub mod Hosts
-- what sends leave on legs
pub mod Legs
-- what an anchor puts on legs and in the tunnel
pub mod Puts
-- what an anchor sent, step by step
pub mod Anchors
-- when an anchor sends
pub mod Sending
-- and sends for the first time
pub mod Opening
-- what an anchor confirms by acks and delivery statuses
pub mod Confirming
pub mod Verdicts
-- what the terminal acks
pub mod Terminals
-- packets in the tunnel, written and read
pub mod Packets
-- flights that come to the host
pub mod Arriving
-- each step of an anchor
pub mod States
-- and its adoption
pub mod Adopting
-- and what comes to it from the host, and over the air
pub mod Found
