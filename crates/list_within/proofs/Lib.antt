pub mod Listing
pub mod Found
pub mod Answers
