-- which anchors stay active
pub mod Lasting
-- the holder by the past has an active anchor
pub mod Kept
