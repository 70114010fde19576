-- what a step of the past does to what is seen of it
pub mod Unseen
pub mod Seeing
-- the terminal's side after a step
pub mod Legs
pub mod Senders
pub mod Establishments
pub mod Drawing
pub mod Changing
pub mod Halves
pub mod Terminals
pub mod Failing
pub mod Protecting
pub mod ReadStays
pub mod Plans
-- what the master and the secondary nodes note
pub mod SecondNotes
pub mod MasterSays
pub mod MasterNotes
-- the lines of an event
pub mod Lines
pub mod TerminalNotes
pub mod Roots
pub mod Wells
pub mod PlainLines
-- a run
pub mod Standing
pub mod Held
pub mod Given
pub mod Events
pub mod Runs
-- the claims
pub mod Answering
pub mod Present
pub mod Protected
pub mod Freed
pub mod Rising
