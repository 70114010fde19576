-- what is so of the command table in each step of the procedures
pub mod Tables
-- no key of an identity is claimed by two establishments
pub mod OneClaimant
-- keys in the command table
pub mod Keyed
-- names of establishments
pub mod Names
-- first records
pub mod Firsts
-- bearers at the terminal
pub mod Halves
-- keys in use
pub mod InUse
-- uplink PDUs on links
pub mod Relays
-- downlink PDUs
pub mod Downlink
-- anchors that may send
pub mod Open
-- downlink PDUs that come to leg hosts
pub mod Passed
