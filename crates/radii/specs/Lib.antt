pub mod Covering
pub mod Radii
pub mod Rising
pub mod Rows
pub mod Tables
