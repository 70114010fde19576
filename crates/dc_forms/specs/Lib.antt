-- the definitions that contracts cite
pub mod Forms
pub mod Shown
