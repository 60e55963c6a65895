pub mod Constants
pub mod Shifting
pub mod Substitution
