-- The laws of specs/: digests, noise, calls by their kind, and the verdict on them.
pub mod Digests
pub mod Noises
pub mod Steps
pub mod Read
pub mod Verdicts
