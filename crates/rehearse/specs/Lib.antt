pub mod Digest
pub mod Noise
pub mod Recorded
pub mod Kinds
pub mod Calls
pub mod Verdict
pub mod Printed
