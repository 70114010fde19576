-- how the procedures' answers tell the rules'
pub mod Faults
-- parts of the rules' steps
pub mod Asking
pub mod Passing
