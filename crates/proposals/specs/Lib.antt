pub mod Lines
pub mod Proposed
