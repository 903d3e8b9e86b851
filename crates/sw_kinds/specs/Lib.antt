pub mod Row
pub mod Fuse
pub mod FuseRuns
pub mod Readings
