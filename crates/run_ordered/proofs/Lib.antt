-- what a new anchor counts
pub mod Counting
-- what an anchor keeps lies in its window
pub mod Windowed
-- what each step of an anchor keeps, the nodes keep of all
pub mod MasterWalk
pub mod SecondWalk
pub mod Walks
-- the submissions that have yet to come to an anchor
pub mod Fronts
-- what is handed over
pub mod Saying
pub mod Freezing
pub mod Taking
-- the core's line to a secondary node
pub mod Feeding
-- the order of the downlink, step by step
pub mod Scenes
pub mod Handing
pub mod Submitting
pub mod Turning
pub mod Carrying
-- one anchor, step by step
pub mod Serving
pub mod Adopting
-- the window, and a new bearer
pub mod Telling
-- what a node has, and what comes on its line
pub mod Lines
-- and a step of its anchor
pub mod Stepping
