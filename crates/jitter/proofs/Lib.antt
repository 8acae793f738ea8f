-- Least and greatest over a run of times, what T-13 asks of them, that no opening is refused, scratch that a copy runs on, and the outcome of each function.
pub mod Ranges
pub mod Walks
pub mod Openings
pub mod Scratch
pub mod Copies
pub mod Cases
pub mod Outcomes
