pub mod Answers
pub mod Asking
pub mod Entries
pub mod Reading
