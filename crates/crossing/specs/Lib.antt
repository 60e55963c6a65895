pub mod Crossing
pub mod Part
