-- the data PDUs that an anchor sends
pub mod Canonical
-- the downlinks, as the past has them
pub mod Seen
-- downlink PDUs, and where they come from
pub mod Downlinks
-- anchors that may send them
pub mod Keyed
-- what each step of an entity keeps
pub mod Entities
-- steps that leave the downlinks where they are
pub mod Still
