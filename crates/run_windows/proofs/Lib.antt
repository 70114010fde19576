-- what a step of the past does to what is seen of it
pub mod Seeing
-- windows and establishments by their identities
pub mod Keys
pub mod Latest
-- the notes of an outcome and its lines
pub mod Sorting
-- the windows of the master
pub mod Telling
pub mod Tables
pub mod Fitting
pub mod Moving
pub mod Procedures
pub mod Elsewhere
pub mod Carrying
pub mod Laying
pub mod Masters
pub mod Commands
pub mod Submitting
pub mod Answering
pub mod Told
