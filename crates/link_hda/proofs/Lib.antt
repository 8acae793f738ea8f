-- Where unsolicited responses and the immediate command do what HDA 1.0a says, and where not.
pub mod Exceptional
pub mod Unsolicited
pub mod Immediate
pub mod Witnesses
