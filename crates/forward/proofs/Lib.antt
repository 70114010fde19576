pub mod Arrivals
pub mod Carrying
pub mod Frames
pub mod Numbers
