pub mod Asked
pub mod Heard
pub mod Nans
pub mod Off
pub mod Places
pub mod States
