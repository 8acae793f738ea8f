-- Where the device does what HDA 1.0a says, and where not.
pub mod Exceptional
pub mod Agreement
pub mod Witnesses
pub mod Coverage
pub mod Resets
pub mod Rates
