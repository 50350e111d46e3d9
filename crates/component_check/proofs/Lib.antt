pub mod First
mod Marking
mod Meeting
pub mod Offers
