pub mod Unfolding
pub mod Compiled
pub mod Fits
pub mod Pacing
pub mod Words
pub mod Listed
pub mod Reread
