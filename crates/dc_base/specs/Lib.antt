-- the definitions that contracts cite
pub mod Count
pub mod Links
pub mod Nodes
pub mod Records
pub mod Statuses
pub mod Tunnel
