-- the definitions that contracts cite
pub mod DataPdu
pub mod Bitmap
pub mod StatusReport
pub mod Pdu
