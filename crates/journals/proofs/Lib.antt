pub mod OnEach
pub mod Stamps
pub mod Finding
pub mod Orders
pub mod Before
