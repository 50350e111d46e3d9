pub mod Dark
pub mod Drawn
