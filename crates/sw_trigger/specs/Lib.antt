pub mod Settings
pub mod Agenda
pub mod Counts
pub mod Seen
pub mod Found
