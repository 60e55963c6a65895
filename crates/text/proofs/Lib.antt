pub mod Putting
pub mod Decimal
pub mod Reading
