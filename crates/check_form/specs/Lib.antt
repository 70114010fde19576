-- the definitions that contracts cite
pub mod Verdicts
pub mod Written
