pub mod Answers
pub mod Counts
pub mod Sets
pub mod Signs
pub mod Steps
