pub mod Codecs
pub mod WellFormed
pub mod Bytes
