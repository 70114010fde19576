-- lines that say what the terminal has, and what became of a secondary node
pub mod Lines
