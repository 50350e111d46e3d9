pub mod Phrase
pub mod Reading
