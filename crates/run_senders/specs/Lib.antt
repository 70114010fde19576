-- which node holds what
pub mod Holders
-- which node sends a line
pub mod Lines
-- what stands on a link
pub mod Kinds
-- records between their ends
pub mod Fitting
