pub mod Demands
pub mod Layout
pub mod Messages
pub mod ReadNumbers
pub mod Rows
pub mod Shapes
pub mod Spare
pub mod Velocities
