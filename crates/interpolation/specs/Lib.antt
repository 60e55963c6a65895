pub mod Answered
pub mod Interpolated
