-- the PDUs that were sent on a link, by their numbers
pub mod Histories
-- and what each end of a leg has of them
pub mod Records
-- the PDUs and packets sent, and what is copied
pub mod Traffic
-- the claim on numbers, of some links
pub mod Claims
