pub mod Unsolicited
pub mod Immediate
pub mod Exceptions
pub mod Steps
