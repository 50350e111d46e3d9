pub mod Doubles
pub mod Halts
