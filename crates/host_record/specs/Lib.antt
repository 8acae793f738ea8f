pub mod Hosts
pub mod Typed
