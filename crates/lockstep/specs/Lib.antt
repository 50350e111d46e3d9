pub mod Related
pub mod Lockstep
pub mod Contexts
pub mod Itself
