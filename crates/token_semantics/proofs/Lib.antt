pub mod Fits
pub mod Resolved
pub mod Reached
pub mod HandLemmas
pub mod Same
pub mod Places
pub mod Going
pub mod Statements
pub mod Levels
pub mod Spent
pub mod PlainLemmas
mod Examples
