pub mod Filled
pub mod Blocks
pub mod Doubling
pub mod Calls
