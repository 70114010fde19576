-- what stands on the links
pub mod Standing
-- the order of an event's lines
pub mod Sorted
-- who sends on which kind of link
pub mod Senders
-- what a claim says of some events or lines
pub mod Parts
