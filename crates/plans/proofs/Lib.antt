pub mod Planning
pub mod Taken
pub mod Leads
pub mod Expected
pub mod Laws
