-- Laws of the state: how long its parts are, the loops over streams, and the ways out of `save`.
pub mod Sizes
pub mod Turns
pub mod Outcomes
