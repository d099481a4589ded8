pub mod Places
pub mod Promises
pub mod Shapes
pub mod Velocities
