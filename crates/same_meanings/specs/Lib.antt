pub mod Observed
pub mod Same
pub mod Straight
