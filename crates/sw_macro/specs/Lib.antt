pub mod Label
pub mod Table
pub mod Kept
pub mod Seen
pub mod Filling
pub mod Expansion
pub mod Placed
