-- what of the past decides how a downlink submission is answered
pub mod Seen
-- the windows of the master, as they are seen
pub mod Windows
-- the notes that decide
pub mod Controls
-- what the procedures have the master do
pub mod ActNotes
-- what the procedures hold of each bearer
pub mod Fits
-- the answer to a downlink submission
pub mod Answers
