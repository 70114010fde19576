pub mod Again
pub mod Headers
pub mod Places
pub mod Reading
pub mod Unique
pub mod Rows
