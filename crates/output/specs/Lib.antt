pub mod Documented
pub mod HardWords
pub mod Program
pub mod Rooms
pub mod Told
