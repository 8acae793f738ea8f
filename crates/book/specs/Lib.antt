pub mod Buffers
pub mod Book
pub mod Reasons
pub mod Events
pub mod Lists
pub mod Claim
pub mod Corollaries
