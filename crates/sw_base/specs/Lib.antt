pub mod Limits
pub mod Text
pub mod Errors
pub mod Layers
pub mod Layout
pub mod Memory
pub mod Number
pub mod Reading
