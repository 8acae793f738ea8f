-- The laws and theorems. Theorems: `nearest` of Doubles, `within`, `clamped` and `exact-within` of Bound, `one-pass-is-two-steps` of Passes.
-- Laws for those who call `amplify`: Laws. The other files serve these or the functions' proofs.
pub mod Table
pub mod Twentieth
pub mod Entries
pub mod Doubles
pub mod Closest
pub mod Product
pub mod Laws
pub mod Bound
pub mod Words
pub mod Rounding
pub mod Scaling
pub mod Passes
