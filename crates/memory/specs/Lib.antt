pub mod Laid
pub mod Same
