pub mod Value
pub mod Place
pub mod Shift
pub mod Parts
pub mod Each
