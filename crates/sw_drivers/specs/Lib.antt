pub mod Banks
pub mod Boards
pub mod Crc
pub mod Frames
pub mod Kept
pub mod Lines
pub mod Readings
pub mod Wires
