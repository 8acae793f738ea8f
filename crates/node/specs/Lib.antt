pub mod Command
pub mod Parameters
pub mod Nodes
