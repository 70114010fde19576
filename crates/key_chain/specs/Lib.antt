-- the definitions that contracts cite
pub mod Hmac
pub mod Derived
pub mod KeyNames
pub mod Book
pub mod BookOfMaps
