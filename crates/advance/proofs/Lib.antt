-- The calls' ways out.
pub mod Outcomes
