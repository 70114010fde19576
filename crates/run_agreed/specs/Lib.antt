-- the parts of a step of the master's procedures
pub mod Segments
-- the records of commands between the master and a secondary node
pub mod Lines
-- the rejection of drops
pub mod Drops
-- what is needed besides agreement
pub mod Expected
pub mod Stalls
-- dropped bearers
pub mod Dropped
-- answers
pub mod BearerCauses
-- where no plan is carried out
pub mod Kept
