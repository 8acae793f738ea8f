-- Booleans and choices; and the laws of specs/: what they need of lists, numbers and their bytes, bytes put at a place, copies of parts, words at a place, bytes moved down,
-- parts of a space, loops over numbers.
pub mod Choices
pub mod Lists
pub mod Value
pub mod Puts
pub mod Copies
pub mod Place
pub mod Shifts
pub mod Parts
pub mod Each
pub mod Endian
