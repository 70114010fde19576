-- the definitions that contracts cite
pub mod Sender
pub mod Sending
pub mod Slots
