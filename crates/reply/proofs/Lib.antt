-- What passed records say of their bytes, and the theorems.
pub mod Records
pub mod Theorems
