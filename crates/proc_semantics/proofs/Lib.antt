pub mod Kin
pub mod Congruence
pub mod Marked
pub mod Recursive
pub mod Fuelled
mod Examples
pub mod Picks
pub mod Offers
