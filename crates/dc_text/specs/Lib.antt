-- the definitions that contracts cite
pub mod HexText
pub mod Lines
