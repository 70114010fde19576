-- the definitions that contracts cite
pub mod Decided
pub mod Parts
pub mod Says
