pub mod Filed
pub mod Filling
pub mod Held
pub mod Lying
pub mod Named
pub mod Reading
pub mod Writing
pub mod Offers
