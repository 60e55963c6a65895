pub mod Costed
