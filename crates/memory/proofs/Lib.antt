pub mod Laid
pub mod Same
pub mod Zero
