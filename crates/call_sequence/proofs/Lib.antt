mod Ascending
mod Listing
mod Entries
mod Verdicts
pub mod OneVerdict
pub mod Walks
pub mod Placed
mod Rowed
pub mod LocalFacts
pub mod Fitting
pub mod Kept
pub mod Steps
mod Words
pub mod LawLemmas
pub mod CallLaws
pub mod ReturnLaws
pub mod EntryLaws
pub mod Straight
mod Testing
mod Passing
pub mod SequenceWalks
pub mod Offers
