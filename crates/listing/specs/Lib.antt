pub mod Listing
pub mod Messages
pub mod Steps
pub mod Streaming
