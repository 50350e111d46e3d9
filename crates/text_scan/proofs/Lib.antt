mod Digits
mod Lines
mod Pieces
mod Cuts
mod Texts
pub mod Places
mod Faults
pub mod Printed
pub mod Offers
