pub mod Answers
pub mod CodeNumbers
pub mod QuantityNumbers
pub mod Shapes
pub mod Velocities
