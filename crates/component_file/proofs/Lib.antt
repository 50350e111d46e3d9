pub mod Lists
pub mod CanWrite
pub mod FieldLaws
pub mod ListLaws
pub mod ComponentLaws
pub mod Parts
pub mod Lengths
pub mod Offers
