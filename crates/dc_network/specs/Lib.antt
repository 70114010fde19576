-- the definitions that contracts cite
pub mod Apart
pub mod Counting
pub mod Events
pub mod Keeping
