pub mod Callbacks
pub mod Claim
pub mod Between
pub mod Corollaries
