-- What the definitions say: what a plan rests on, the turns of the loop over pieces, the outcome of each function from what its tests and
-- calls leave, what holds of the pieces whatever guest memory holds, and small runs.
pub mod Plans
pub mod Turns
pub mod Laws
pub mod Validity
pub mod Facts
pub mod Positions
pub mod Spacing
pub mod Examples
