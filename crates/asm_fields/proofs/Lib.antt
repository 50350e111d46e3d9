mod RegNames
pub mod Again
pub mod Printed
pub mod Offers
