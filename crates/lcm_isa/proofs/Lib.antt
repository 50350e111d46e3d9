pub mod NumberLemmas
pub mod NameLemmas
pub mod TextLemmas
pub mod OwnLemmas
pub mod Offers
