pub mod Passes
pub mod CalledBack
pub mod Callers
