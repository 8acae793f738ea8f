-- What a number 0 says, a callback on bytes, lists of them, and other calls between.
pub mod Numbers
pub mod Callbacks
pub mod Theorem
pub mod Between
