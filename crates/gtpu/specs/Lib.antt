-- the definitions that contracts cite
pub mod Content
pub mod Extension
pub mod Grammar
pub mod Fault
pub mod Decoded
pub mod Spelling
pub mod Walk
