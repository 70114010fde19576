-- what several notes come to
pub mod Notes
-- the lines of an event
pub mod Ordered
-- a step of an anchor
pub mod AnchorSteps
-- notes and the anchors that are active after them
pub mod Telling
-- a secondary node
pub mod SecondTelling
-- the master
pub mod MasterSaying
pub mod MasterTelling
-- what is frozen, and what hands up
pub mod SecondKinds
pub mod MasterKinds
-- the lines of one node
pub mod OneNode
-- what the past says of who holds
pub mod StillHeld
pub mod HeldSeeing
pub mod HeldLines
pub mod HolderClaims
pub mod NamesApart
pub mod EventHolds
pub mod Runs
pub mod JudgedHolds
pub mod TerminalIdle
pub mod TerminalSuited
pub mod OwnSuits
pub mod SecondSuited
pub mod ViewHolders
pub mod NoneActive
pub mod BearerBefore
pub mod Requests
pub mod MasterBefore
pub mod Quiet
pub mod LeftOver
-- steps of secondary nodes meet what they have to
pub mod SecondWellAlways
pub mod SecondWellActs
pub mod SecondWellOwns
pub mod SecondWellLatest
pub mod SecondWellPlans
pub mod SecondWellWaits
pub mod SecondWellJudged
pub mod SecondWellApart
pub mod SecondWellDrops
pub mod SecondWell
-- the steps of the master
pub mod MasterWellSets
pub mod MasterWellLines
pub mod MasterWellCut
pub mod MasterWellGoes
pub mod MasterWellItems
pub mod MasterWellActs
pub mod MasterWellSteps
pub mod MasterWellAdopts
pub mod MasterWellFits
pub mod MasterWell
-- each run
pub mod Always
