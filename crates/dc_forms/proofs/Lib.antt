pub mod Showing
pub mod Wording
