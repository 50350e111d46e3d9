pub mod Known
pub mod Calls
pub mod Runs
pub mod Begins
pub mod Offers
