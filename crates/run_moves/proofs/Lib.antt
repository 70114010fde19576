-- SDUs with a sequence number are taken under the COUNTs that they had
pub mod Counted
-- the entity that is taken over
pub mod Taken
