pub mod RegLemmas
mod RegLists
pub mod CellLemmas
pub mod Stretches
pub mod SpanLemmas
pub mod StateLemmas
pub mod Plans
pub mod RowLemmas
mod Onward
mod Fetching
mod RowsMet
mod TestedRows
mod DetailRows
pub mod TouchLemmas
pub mod JumpLemmas
pub mod WordsKept
pub mod WordsFit
pub mod Quiet
pub mod Blind
pub mod StepActs
pub mod RegionLemmas
pub mod Hands
pub mod HeldOnce
pub mod CountLemmas
pub mod RunLemmas
pub mod Goes
pub mod StepRows
mod Altered
pub mod BackLemmas
pub mod Refusals
pub mod XjmpFails
pub mod Commute
pub mod Offers
