-- the definitions that contracts cite
pub mod Load
pub mod Reading
pub mod Outgoing
pub mod Forwarded
pub mod Kept
pub mod Tunnel
