pub mod Compiling
pub mod Modules
