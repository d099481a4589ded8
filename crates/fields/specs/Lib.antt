pub mod Fields
pub mod Places
pub mod Quantities
pub mod Reported
pub mod Travels
