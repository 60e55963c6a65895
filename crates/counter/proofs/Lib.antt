pub mod Judging
pub mod Both
pub mod Lists
pub mod Beside
pub mod Unique
