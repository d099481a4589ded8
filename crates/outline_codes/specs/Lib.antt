pub mod Kinds
pub mod Outlines
pub mod Points
pub mod Ranges
pub mod Sizes
pub mod Unused
