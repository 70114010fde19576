-- what comes first to a secondary node is taken, and what is on its links to the master is awaited
pub mod Seconds
-- wants
pub mod Wants
-- recoveries
mod RecoveryRecords
mod RecoverySteps
pub mod RecoveryRuns
-- nothing stalls
pub mod Stalling
