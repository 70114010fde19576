-- the definitions that contracts cite
pub mod Reading
pub mod Room
