pub mod Judging
pub mod Verdict
