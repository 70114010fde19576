-- how often a bearer's entity is held, or on its way
pub mod Tokens
-- where a bearer is
pub mod Places
