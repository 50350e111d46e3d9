pub mod Status
pub mod Refusals
