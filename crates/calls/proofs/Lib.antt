-- What each layer keeps of a valid machine, from the rings up to the calls; then the theorems over every call.
pub mod Rings
pub mod Pci
pub mod Bus
pub mod Turns
pub mod Control
pub mod Devices
pub mod Driver
pub mod Writes
pub mod Calls
pub mod Advance
pub mod Restore
pub mod Validity
