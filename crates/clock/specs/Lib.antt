pub mod Billionths
pub mod Clock
pub mod Frames
