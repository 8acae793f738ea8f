-- Where the rings do what HDA 1.0a says, and where not.
pub mod Agreement
pub mod Runs
pub mod Witnesses
