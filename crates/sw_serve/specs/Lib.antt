pub mod SlotCards
pub mod Fitting
pub mod Arrivals
pub mod Orders
pub mod Serving
pub mod Partings
