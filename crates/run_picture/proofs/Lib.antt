mod Bounds
mod Boxes
mod Closing
mod Cuts
mod Drawn
mod Escapes
mod Fits
mod Joined
mod Lines
mod Open
pub mod Passes
mod Plain
mod Short
mod Sizes
mod Stands
mod Svg
mod Traces
mod Weights
pub mod Offers
