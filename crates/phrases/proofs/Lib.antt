pub mod Readers
pub mod Repeats
pub mod Heads
pub mod Loose
pub mod Blames
pub mod Gives
pub mod Offers
