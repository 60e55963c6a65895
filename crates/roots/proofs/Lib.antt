pub mod Loading
pub mod Rows
pub mod Found
