pub mod Modules
pub mod Doubled
pub mod Same
pub mod Halts
pub mod Apart
pub mod Links
pub mod Beginnings
pub mod Offers
