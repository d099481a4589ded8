pub mod Answering
pub mod Blocks
pub mod Inputs
pub mod Lines
pub mod Outputs
pub mod Sinks
pub mod Sources
