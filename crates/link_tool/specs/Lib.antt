pub mod Generated
pub mod Parts
pub mod Linked
pub mod Loads
