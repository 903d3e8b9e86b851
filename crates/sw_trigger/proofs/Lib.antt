pub mod Repeats
pub mod Awaiting
pub mod Same
pub mod Ranges
