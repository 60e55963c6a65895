pub mod Placed
pub mod Counts
pub mod MaskedRows
pub mod Vanishing
