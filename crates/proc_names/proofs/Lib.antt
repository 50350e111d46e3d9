mod NeedLemmas
mod Looked
pub mod FirstLemmas
pub mod ItemFaults
mod TwiceLemmas
mod CallLemmas
pub mod Offers
