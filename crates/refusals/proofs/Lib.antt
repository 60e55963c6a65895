pub mod Tests
pub mod First
pub mod Tried
pub mod Chain
pub mod Chained
pub mod Outcomes
pub mod Unique
