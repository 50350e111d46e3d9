mod Works
mod Endings
mod Ticking
mod Lines
