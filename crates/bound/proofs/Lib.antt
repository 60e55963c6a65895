pub mod Direct
pub mod Form
pub mod Powers
pub mod Degree
