-- The laws of specs/: what a field and a run are and what follows them, and the loop over a number's bytes.
pub mod Number
pub mod Fields
pub mod Then
