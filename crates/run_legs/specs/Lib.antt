-- what was put on legs
pub mod Puts
-- and by which entity
pub mod Entities
