pub mod Columns
pub mod Fold
pub mod Tree
