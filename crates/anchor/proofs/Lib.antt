-- the lemmas that proofs cite
pub mod Adoption
pub mod Ascending
pub mod Coming
pub mod Counted
pub mod Delivery
pub mod Frozen
pub mod Kept
pub mod Pieces
pub mod Shape
