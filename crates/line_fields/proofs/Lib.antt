pub mod Feeding
pub mod FormLemmas
pub mod FirstBad
mod Digits
pub mod Cuts
pub mod Numbers
pub mod Taken
pub mod Fronts
pub mod WordTexts
pub mod JumpTexts
pub mod Offers
