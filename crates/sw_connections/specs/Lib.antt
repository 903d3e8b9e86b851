pub mod Limits
pub mod Admission
pub mod Leaving
pub mod Side
pub mod Reads
