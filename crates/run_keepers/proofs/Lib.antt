-- what stays active over several notes
pub mod Lasting
-- a secondary node
pub mod SecondLasting
-- the master
pub mod MasterLasting
-- the lines of a node
pub mod KeptLines
-- several lines, and a step
pub mod KeptRuns
-- before the lines of an event
pub mod KeptEvents
-- a step of a node
pub mod KeptSteps
