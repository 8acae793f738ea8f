pub mod Hda
pub mod Exceptions
pub mod Steps
