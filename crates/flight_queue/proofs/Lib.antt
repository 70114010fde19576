-- where a flight stands among runs
pub mod Places
