pub mod Journals
pub mod Crosses
