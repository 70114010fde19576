-- the definitions that contracts cite
pub mod Routing
pub mod Stored
pub mod Legs
pub mod Indexes
pub mod Routes
