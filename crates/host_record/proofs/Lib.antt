-- Laws of the record: how long it is, the scan of its queues, what the code's types say of a host end; and the theorems.
pub mod Sizes
pub mod Scan
pub mod Held
pub mod Theorems
