-- the definitions that contracts cite
pub mod Kinds
pub mod Kept
pub mod Changes
pub mod Steps
pub mod Due
