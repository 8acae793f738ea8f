pub mod Restores
pub mod Returns
