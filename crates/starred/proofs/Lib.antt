pub mod Single
pub mod HardWord
pub mod Starred
