pub mod Narrow
pub mod Crossed
