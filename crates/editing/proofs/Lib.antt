pub mod After
pub mod Unique
