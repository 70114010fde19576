-- what was sent for the terminal in each generation, and what came of it
pub mod Stories
-- what flights say of it
pub mod Flights
-- and what nodes have of it
pub mod Nodes
-- how plans lay bearers out
pub mod Plans
-- the master
pub mod Masters
-- where plans have anchors and leg hosts
pub mod Laid
-- all nodes and links
pub mod Worlds
-- what is still asked of a run
pub mod Heard
-- what an anchor stops to keep
pub mod Confirmed
