pub mod Same
pub mod Steps
pub mod Grammar
pub mod Clean
pub mod Found
pub mod Offers
