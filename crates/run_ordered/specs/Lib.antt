-- the sending entity, and the submissions that have yet to come to it
pub mod Fronts
-- what a frozen sending entity is handed over by
pub mod Forwarding
-- the core's lines
pub mod Feeds
-- where the submissions of a bearer are
pub mod Orders
-- what each step of an anchor keeps
pub mod Anchors
pub mod Windows
-- what a step makes of them
pub mod Scenes
-- and a plan
pub mod Turns
