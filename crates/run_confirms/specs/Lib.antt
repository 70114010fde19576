-- what an ack and a delivery status say
pub mod Statuses
-- what came in a tunnel
pub mod Arrivals
-- the host of a leg
pub mod Hosts
-- an anchor
pub mod Anchors
-- the terminal
pub mod Terminals
-- packets in the tunnel
pub mod Packets
-- an anchor, active or waiting
pub mod States
