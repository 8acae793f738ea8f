-- What the functions' proofs need of the header, of lists compared and of files; then the theorems.
pub mod Headers
pub mod Same
pub mod Files
pub mod Theorems
