pub mod LabelTables
pub mod Resolved
mod KindLemmas
mod LineLemmas
pub mod Again
pub mod Gets
pub mod Words
pub mod Chains
pub mod Kept
pub mod Items
pub mod Drafts
pub mod Complete
pub mod Offers
