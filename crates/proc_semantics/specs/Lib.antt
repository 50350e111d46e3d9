pub mod Told
pub mod Values
pub mod Rules
pub mod Meaning
pub mod Marked
pub mod Apart
pub mod Whole
pub mod Fuel
