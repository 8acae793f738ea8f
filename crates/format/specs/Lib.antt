pub mod Hda
pub mod Format
pub mod Accepted
