pub mod Header
pub mod Files
pub mod Riff
