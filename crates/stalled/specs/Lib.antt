pub mod Stalled
