-- what stands on the links, by the past of the claims and by the world
pub mod Keeping
pub mod Standing
-- the claims
pub mod Lines
pub mod Claims
pub mod Causes
pub mod Runs
pub mod TerminalSends
