pub mod Laws
pub mod Leads
