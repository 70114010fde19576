-- what of the past says who holds a bearer
pub mod Holdings
-- who holds a bearer, by the past and by the nodes
pub mod Holders
-- what the lines of an event say of active anchors
pub mod Actives
-- lines that fit the past
pub mod Fitting
-- steps of nodes that suit the past
pub mod Suited
-- lines by which an anchor becomes active
pub mod Owning
-- requests that are on their way
pub mod Requests
-- lines of holders
pub mod Lines
-- what the lines of each event have to meet
pub mod LeftOver
