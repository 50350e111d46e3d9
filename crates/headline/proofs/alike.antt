-- The plain run's lines are the overlay's: which instructions write none, and what those of each step write.
pub mod Calm
pub mod Mute
pub mod Laying
pub mod Operands
pub mod SequencesCalm
pub mod Sites
pub mod Apart
pub mod Lands
pub mod Others
pub mod CallLine
pub mod Returns
pub mod ReturnLine
pub mod Alike
