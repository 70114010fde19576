-- what the past has of the uplink of a bearer
pub mod Receipts
-- what lines and events change of it
pub mod Changes
-- the receiving entity, by the past
pub mod Receivers
-- what is on its way
pub mod OnTheWay
-- each uplink at any moment of a run
pub mod Uplinks
