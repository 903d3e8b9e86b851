pub mod Work
pub mod Connected
pub mod Pauses
pub mod Waits
pub mod Halves
