-- the claims that a transcript keeps
pub mod KeepsClaims
