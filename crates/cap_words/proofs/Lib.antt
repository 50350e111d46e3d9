pub mod ByteReads
pub mod Numbers
pub mod Fields
pub mod Words
pub mod Texts
pub mod Offers
