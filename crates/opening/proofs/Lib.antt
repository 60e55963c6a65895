pub mod Opening
pub mod Parts
pub mod Unique
