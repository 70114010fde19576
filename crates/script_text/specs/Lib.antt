-- the definitions that contracts cite
pub mod Fields
pub mod Grammar
pub mod Scripts
pub mod Places
pub mod Spelling
