-- drafts of the code, and those of the rules
pub mod Drafted
-- steps of the rules, from what the code has in the state
pub mod Stepping
