pub mod Table
pub mod Exceptions
pub mod Files
