pub mod Registers
pub mod StatusModel
pub mod Laws
