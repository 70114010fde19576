pub mod Splitting
pub mod Ordering
pub mod Counted
pub mod Keeping
pub mod Moves
