pub mod OnEach
pub mod Lists
pub mod Growing
pub mod Establishing
