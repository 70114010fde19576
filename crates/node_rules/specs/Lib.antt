-- what each node does with one input: the definitions that every crate of nodes answers to

-- what goes in and comes out, for every node
pub mod Choices
pub mod Lines
-- bearers at a node
pub mod Setup
pub mod Entity
pub mod Sending
pub mod Packets
pub mod Anchor
pub mod AnchorSending
pub mod Adopting
pub mod AnchorReceiving
pub mod Freezing
pub mod Feed
pub mod Host
pub mod HostRules
pub mod TerminalHalf
-- the procedures of the master and of a secondary node
pub mod Places
pub mod CommandTable
pub mod Drafts
pub mod Acts
pub mod MasterState
pub mod MasterGo
pub mod MasterEnds
pub mod MasterCommands
pub mod MasterRecords
pub mod MasterTaking
pub mod SecondState
pub mod SecondRecords
-- the nodes
pub mod Held
pub mod Effects
pub mod Flights
pub mod Parts
pub mod Master
pub mod MasterPlan
pub mod MasterStep
pub mod Secondary
pub mod SecondPlan
pub mod SecondStep
pub mod Terminal
pub mod NodeRule
pub mod Readers
-- the world
pub mod World
pub mod Run
