-- recoveries between the master and a secondary node
pub mod Recoveries
