pub mod Edits
pub mod Entries
pub mod Moving
pub mod Lowest
pub mod Rightly
