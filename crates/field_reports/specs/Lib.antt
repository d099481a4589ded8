pub mod Outlines
pub mod Points
