mod FrontLemmas
mod FoundLemmas
mod TokenLemmas
mod Made
pub mod ErasedLemmas
pub mod Blocks
pub mod Sizes
pub mod Offers
