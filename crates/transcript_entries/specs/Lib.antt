-- the definitions that contracts cite
pub mod Lines
pub mod Places
pub mod Read
