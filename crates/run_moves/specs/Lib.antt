-- an entity that can be moved whole
pub mod Movable
