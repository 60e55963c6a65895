pub mod Refusal
pub mod Told
pub mod Tries
pub mod Checked
pub mod Found
