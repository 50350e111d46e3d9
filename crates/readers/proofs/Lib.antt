pub mod Faults
pub mod Grammar
pub mod Wholes
pub mod Items
pub mod Pieces
pub mod Offers
