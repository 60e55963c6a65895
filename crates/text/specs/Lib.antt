pub mod Text
pub mod Rooms
