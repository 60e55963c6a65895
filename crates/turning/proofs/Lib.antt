pub mod Filled
pub mod Turned
