mod Ends
mod Filled
mod NoPlaces
mod SpansListed
mod StretchesFound
pub mod FreeLemmas
pub mod OneList
pub mod OneSet
pub mod TakesLemmas
mod WithinClosed
mod RunsWithin
mod RunsBlind
mod ReachedWithin
mod EnteredWithin
mod ReportsBlind
mod FoundLemmas
mod OwnersSmall
mod SealsOwn
mod Ranges
pub mod OneReport
pub mod Offers
