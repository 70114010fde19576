-- what the past says of the secondary nodes
pub mod Sides
-- the events whose answers are due by it
pub mod Answers
-- what such a node notes of itself
pub mod Own
