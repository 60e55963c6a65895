pub mod Operands
pub mod Unique
