pub mod Empty
pub mod Placing
pub mod Loaded
pub mod Coefficients
pub mod Conditions
pub mod Front
pub mod Systems
