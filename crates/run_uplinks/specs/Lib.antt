-- what of the past the terminal's uplink shows
pub mod Seen
-- what the terminal holds of each bearer, by the past
pub mod Uplinks
-- the answers to uplink submissions
pub mod Answers
-- which notes change it
pub mod Notes
-- what decides whether a PDU protects its submission
pub mod Readings
