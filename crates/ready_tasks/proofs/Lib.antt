mod Tasks
mod Loads
mod Debugs
pub mod Offers
