pub mod Messages
pub mod Rows
pub mod InOrder
pub mod Written
