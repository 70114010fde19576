-- what was submitted in one direction, and the entity that receives it
pub mod Submitted
pub mod Receiving
-- the PDUs of submissions, and status reports
pub mod Pdus
pub mod Reports
-- the entity that sends, with the one that receives
pub mod Lanes
-- what leaves a receiving entity as it is
pub mod Untouched
-- a frozen entity, and the anchor that gathers it
pub mod Frozen
pub mod Anchors
