-- legs that grew, and grew again
pub mod Grown
-- what sends put on them
pub mod Sends
-- and those of an entity
pub mod Entities
