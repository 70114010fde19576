-- the definitions that contracts cite
pub mod Entries
pub mod Run
pub mod Receiver
pub mod Ring
pub mod Marks
