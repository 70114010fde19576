-- what was submitted stays so as more is
pub mod Growing
-- one SDU is put
pub mod Fronts
-- one PDU, or several, are taken
pub mod Ciphering
pub mod Taking
-- status reports, and both entities of a direction
pub mod Reporting
pub mod Lanes
-- packets in tunnels, and what a freeze sends
pub mod Packets
pub mod Freezing
-- what an anchor does besides
pub mod Untouched
-- an anchor that waits, one that is active, and each step of either
pub mod Gathering
pub mod Anchors
-- and the terminal's half
pub mod Halves
-- what is sent of a lane
pub mod Sending
-- ageing, and what a host relays
pub mod Ageing
pub mod Relaying
-- bearers at the master
pub mod AtMaster
