-- what leads among the plans that are sent
pub mod Leading
-- of what comes of a step
pub mod Steps
-- of lines
pub mod Lines
