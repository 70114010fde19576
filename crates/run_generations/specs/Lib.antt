-- the generations of plans that a node is told of
pub mod Newer
-- what a node has, and the plans on their way to it
pub mod Ahead
