pub mod Bits
pub mod Queue
pub mod Byte
pub mod Requests
pub mod Limits
