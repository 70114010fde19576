-- The two ends of a tunnel: what each is seen as, and what a delivery status of one says at the other.
pub mod Incoming
pub mod Delivery
pub mod Kept
pub mod Outgoing
pub mod Verdicts
pub mod Ends
pub mod Waiting
