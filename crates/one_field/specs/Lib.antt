pub mod Coding
pub mod Reporting
