pub mod Combinations
pub mod Triangle
pub mod Symbols
pub mod Columns
pub mod Listed
pub mod Back
pub mod Leading
pub mod Unique
