mod Lines
mod Stays
mod Stands
mod Boxes
mod Dark
mod Ranges
mod Drawing
