-- Where the registers do what HDA 1.0a's table says, and where not.
pub mod Bits
pub mod Places
pub mod Alignment
pub mod Agreement
pub mod Resets
pub mod Keeping
pub mod Specials
pub mod Runs
pub mod Witnesses
