pub mod Typed
pub mod Lists
pub mod Claim
pub mod Corollaries
