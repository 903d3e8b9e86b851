pub mod Grammar
pub mod Meaning
pub mod Reading
pub mod Printing
pub mod Seen
pub mod Positions
pub mod PositionMeaning
pub mod PositionSeen
