mod Ranges
mod Draws
