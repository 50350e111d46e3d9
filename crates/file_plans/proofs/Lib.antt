pub mod Follow
pub mod Each
pub mod Offers
