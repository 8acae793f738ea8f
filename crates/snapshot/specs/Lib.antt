pub mod States
pub mod Saves
