pub mod Weighing
pub mod Unique
