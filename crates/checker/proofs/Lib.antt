pub mod Moments
pub mod Keeping
pub mod Contents
pub mod Queues
pub mod Breaking
pub mod Deciding
pub mod Entries
