pub mod FirstOf
pub mod Linking
pub mod LoadParts
pub mod Offers
