pub mod Each
pub mod Names
pub mod Rendering
pub mod BySlot
pub mod Fronts
pub mod Scpi
