pub mod Gaps
pub mod Halves
pub mod Counts
