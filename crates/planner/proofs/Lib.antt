pub mod Checking
pub mod Unique
