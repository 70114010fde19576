-- the condition on a script
pub mod OfMaster
-- the rules of a run in which all bearers are at the master
pub mod Entities
pub mod Plane
pub mod Control
pub mod Links
pub mod Run
-- how a state of such a run and a state of the whole machine belong together
pub mod Forms
pub mod Same
