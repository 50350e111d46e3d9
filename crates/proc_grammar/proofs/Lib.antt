mod Told
mod Tokens
mod Added
mod Items
mod Exprs
mod Stmts
mod Modules
mod Loosely
pub mod Whole
mod Blamed
pub mod Stops
pub mod Limits
mod Leaves
pub mod Within
pub mod Fits
pub mod Offers
