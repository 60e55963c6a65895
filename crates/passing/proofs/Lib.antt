pub mod Collected
pub mod Ranged
pub mod Rows
pub mod Summed
pub mod Gathered
pub mod Tests
