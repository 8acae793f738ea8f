pub mod HdaParameters
pub mod HdaVerbs
pub mod Exceptions
