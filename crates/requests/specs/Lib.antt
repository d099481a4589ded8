pub mod Choice
pub mod Codes
pub mod Holding
pub mod Ranges
