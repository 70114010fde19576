-- what of the nodes and of their flights is of the control plane
pub mod Orders
pub mod Views
pub mod Traffic
pub mod SecondControl
pub mod MasterControl
pub mod TerminalControl
pub mod Steps
pub mod Rows
pub mod Links
pub mod Sound
pub mod Telling
pub mod Claims
pub mod Wants
pub mod Books
