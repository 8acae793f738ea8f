-- What two runs of `advance` have in common, from bytes up to the call.
pub mod Agree
pub mod Lists
pub mod Pieces
pub mod Transfers
pub mod Engines
pub mod Turns
pub mod Rings
pub mod Serve
pub mod Advance
