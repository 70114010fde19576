-- What the contracts of this crate cite.
pub mod Faults
pub mod Octets
pub mod MemSource
pub mod MemSink
pub mod StdForms
