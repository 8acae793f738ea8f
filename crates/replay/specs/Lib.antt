pub mod Hex
pub mod Answers
pub mod Verdict
pub mod Lines
pub mod Printed
