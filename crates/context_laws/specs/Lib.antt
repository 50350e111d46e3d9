pub mod Sources
pub mod Meanings
pub mod Ends
