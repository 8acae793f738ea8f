-- The laws of specs/: what the check of frames says, and that no refusal has the number 0. Then what follows from the definitions alone: that every call
-- leaves a valid host end valid, and what feed and pull do to the streams' bytes.
pub mod Checks
pub mod Outcomes
pub mod Validity
pub mod Frames
