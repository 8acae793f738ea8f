-- What types say of a machine is kept by every call; so a call on bytes is the call on the machine in them, and demand 3 holds of the bytes.
pub mod Turns
pub mod Devices
pub mod Typed
pub mod Records
pub mod Numbers
pub mod Messages
pub mod Theorem
