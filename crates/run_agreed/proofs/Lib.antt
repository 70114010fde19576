-- the parts of a step of the master's procedures
pub mod Chains
pub mod Chained
-- the line between the master and a secondary node
pub mod Spoken
pub mod PairParts
pub mod PairSteps
pub mod PairRuns
pub mod PairKeeping
pub mod SecondSays
-- no drop is rejected
pub mod DropSays
pub mod Drops
pub mod NoDrops
-- records have their row where they come
pub mod Expected
-- nothing stalls
pub mod Settled
pub mod SettledSteps
pub mod SettledRuns
pub mod Stalls
-- dropped bearers
pub mod MasterEvents
pub mod Gone
pub mod DroppedSeen
pub mod Dropped
-- answers
pub mod Policies
pub mod BearerCauses
-- a command that is rejected
pub mod Kept
-- the answers of secondary nodes
pub mod AwaitedAnswers
pub mod AskedRequests
pub mod AnswerKinds
pub mod OneAnswer
pub mod Awaited
pub mod Expecting
pub mod Submissions
-- a status report that is asked for at the master
pub mod MasterReports
