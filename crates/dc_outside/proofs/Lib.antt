pub mod FaultLemmas
pub mod OctetLemmas
