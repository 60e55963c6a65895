pub mod Fits
pub mod PlanFits
pub mod ProposalFits
pub mod Unique
pub mod Handed
