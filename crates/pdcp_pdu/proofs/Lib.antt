pub mod Choices
pub mod Bits
pub mod Reading
pub mod Ascending
pub mod Bitmaps
pub mod Reports
mod Worked
