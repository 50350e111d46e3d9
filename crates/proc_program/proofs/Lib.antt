pub mod Limits
pub mod Kept
pub mod Counted
pub mod Example
pub mod Offers
