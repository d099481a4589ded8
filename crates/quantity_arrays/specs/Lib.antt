pub mod Numbers
pub mod Shapes
pub mod Velocities
