pub mod Ring
pub mod FieldOf
pub mod Grid
pub mod Dot
