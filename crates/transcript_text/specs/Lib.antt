-- the definitions that contracts cite
pub mod Words
pub mod Ranges
pub mod Fields
pub mod Grammar
pub mod Items
pub mod Places
pub mod Spelling
