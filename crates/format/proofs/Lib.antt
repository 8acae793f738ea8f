pub mod Computed
pub mod Laws
pub mod Theorems
