-- Laws of specs/: choices, what follows a run or a field, a stream's part of a state with the loop over the streams, what stands before them; and the theorems.
pub mod Choices
pub mod Fields
pub mod Parts
pub mod Heads
pub mod Theorems
