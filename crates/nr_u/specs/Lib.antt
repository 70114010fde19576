-- the definitions that contracts cite
pub mod Frames
pub mod Faults
pub mod Reading
pub mod Tunnel
