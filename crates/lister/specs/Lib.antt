pub mod Holding
pub mod Walking
