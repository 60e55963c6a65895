pub mod Blocks
pub mod Steps
pub mod Listing
pub mod Answered
