-- stories and how they grow
pub mod Growing
-- windows of anchors
pub mod Steady
-- steps of anchors
pub mod Steps
-- packets that are neither for a host nor from one
pub mod Asides
-- steps of leg hosts
pub mod Hosts
-- what is held by identities
pub mod Held
-- steps of a secondary node
pub mod Seconds
-- and how it carries a plan out
pub mod SecondPlans
-- whatever a secondary node takes
pub mod SecondSteps
-- the terminal
pub mod Terminals
-- steps of the master
pub mod Masters
-- and what its procedures have it do
pub mod MasterPlans
-- whatever the master takes
pub mod MasterSteps
-- an event
pub mod Worlds
-- what an anchor stops to keep
pub mod Confirmed
-- each run
pub mod Always
-- and what is not aged
pub mod Near
-- the ends of links over the air
pub mod Ends
-- what stands, stands on a link
pub mod Linked
-- plans that were drawn
pub mod Laid
pub mod Planning
-- what the procedures of the master carry out
pub mod Going
pub mod Procs
-- every run
pub mod Runs
-- generations that a node has not heard of yet
pub mod Relaid
pub mod Clipped
pub mod Fresh
pub mod News
pub mod ReadRuns
-- first COUNTs
pub mod Low
-- numbers in a tunnel
pub mod Numbers
