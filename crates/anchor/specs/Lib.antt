-- the definitions that contracts cite
pub mod Bounds
pub mod Frozen
pub mod Paths
pub mod Readable
pub mod Ready
pub mod Receiving
pub mod States
pub mod Takeover
