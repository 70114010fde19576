pub mod OwnSteps
pub mod Scripts
