pub mod Layout
pub mod Reaches
pub mod Names
