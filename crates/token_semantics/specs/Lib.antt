pub mod Hands
pub mod Told
pub mod Meaning
pub mod Plain
pub mod Law
