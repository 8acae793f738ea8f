-- The laws of specs/: stores at the end of what is done, digits, recorded answers, verdicts, lines, what is printed; then what the definitions come to.
pub mod Stores
pub mod Digits
pub mod Records
pub mod Verdicts
pub mod Split
pub mod Written
pub mod Read
pub mod Theorems
