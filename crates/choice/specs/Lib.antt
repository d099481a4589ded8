pub mod Kinds
pub mod RequestCodes
pub mod Writing
