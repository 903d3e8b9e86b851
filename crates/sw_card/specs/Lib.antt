pub mod Account
pub mod Kind
pub mod Mask
