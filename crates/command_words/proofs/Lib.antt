pub mod Follow
pub mod Settled
mod LineLemmas
mod NumberLemmas
mod PartLemmas
mod FitLemmas
mod FaultLaw
pub mod Offers
