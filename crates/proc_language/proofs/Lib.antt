pub mod ListLemmas
pub mod Offers
