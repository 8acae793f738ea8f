-- Laws for the functions' proofs; what every command keeps.
pub mod WellFormed
pub mod Values
pub mod Bytes
