pub mod Plans
pub mod Working
