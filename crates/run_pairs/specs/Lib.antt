-- what holds between the master and a secondary node
pub mod Pairs
-- what holds of the master's own procedures
pub mod Apt
-- where a want stands, and which replies are due
pub mod Standing
-- which bearers a secondary node is to have, and holds
pub mod Bearers
-- what comes first to a secondary node fits its anchors
pub mod Fitting
-- what of bearers holds beside a pair
pub mod Fits
