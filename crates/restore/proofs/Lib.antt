-- Laws of the calls: the places of a state's streams, a stream as it is put in force, the loops over them, and the ways out. Then the lists that a restore leaves, which states are taken, what a
-- saved state has of its device, and the theorems.
pub mod Places
pub mod Streams
pub mod Turns
pub mod Outcomes
pub mod Lists
pub mod Takes
pub mod Saves
pub mod Theorems
pub mod Emptied
pub mod Returns
