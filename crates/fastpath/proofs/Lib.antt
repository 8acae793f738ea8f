-- The laws of the fast path: a quiet write has no more to do than its bytes, the commands and the interrupt.
pub mod Scan
pub mod Quiet
pub mod Outcomes
pub mod Tries
