-- the definitions that contracts cite
pub mod Words
pub mod Text
pub mod Transcript
pub mod Content
pub mod Bearers
pub mod Claims
