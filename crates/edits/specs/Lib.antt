pub mod Priced
pub mod Edits
