pub mod Single
pub mod Starred
