-- The book beside the limit; rising lists; loops. Then what ties a stream to the book: through the pieces of a transfer, a turn, the streams' turns, a write, a restore,
-- every call and any list; the theorem and its corollaries, the position register among them; and examples of the book.
pub mod Ghosts
pub mod Reasons
pub mod Orders
pub mod Loops
pub mod Tied
pub mod Pieces
pub mod Turns
pub mod Machines
pub mod Serve
pub mod Control
pub mod Restores
pub mod Calls
pub mod Theorem
pub mod Consequences
pub mod Shown
pub mod Examples
