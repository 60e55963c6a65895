pub mod Walk
pub mod Rows
