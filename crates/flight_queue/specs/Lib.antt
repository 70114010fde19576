-- flights as runs
pub mod Runs
