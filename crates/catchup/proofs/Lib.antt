-- A stream's turn of 0 ns by its rounds, all streams' turns, the call, the callback, other calls, and lists.
pub mod Rounds
pub mod Turns
pub mod Serve
pub mod Advance
pub mod Callbacks
pub mod Quiet
pub mod Theorem
