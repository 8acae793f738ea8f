-- The size of a record.
pub mod Outcomes
