pub mod Halves
pub mod Latitude
pub mod Longitude
