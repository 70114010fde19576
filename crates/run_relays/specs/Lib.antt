-- uplink PDUs
pub mod Pdus
-- those on links and in tunnels
pub mod Relays
-- those that a waiting anchor keeps
pub mod Kept
-- lines that send one
pub mod Lines
-- identities in their range
pub mod Ranges
-- setups of plans
pub mod Setups
-- where a relayed PDU comes from
pub mod Elsewhere
-- COUNTs that the terminal sends
pub mod Ages
