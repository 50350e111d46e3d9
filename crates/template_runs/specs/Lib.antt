pub mod Runs
pub mod Public
pub mod Sharing
pub mod Border
