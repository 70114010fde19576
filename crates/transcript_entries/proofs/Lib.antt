pub mod Joining
pub mod Nexts
pub mod Standing
pub mod Unreading
pub mod Taking
pub mod Opening
pub mod Whole
