pub mod Contexts
pub mod Abstraction
