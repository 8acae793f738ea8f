-- What the definitions say: the view of the bytes as positions, their order, what a push and a retirement do to both, and the turns
-- of the loops.
pub mod View
pub mod Order
pub mod Change
pub mod Scan
