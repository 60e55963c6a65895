pub mod Words
pub mod Marks
pub mod Factors
pub mod Laws
pub mod Desk
pub mod ReadersSums
pub mod Sequences
pub mod Proposals
