pub mod PartLaws
pub mod ImageLaws
pub mod Loaded
pub mod Offers
