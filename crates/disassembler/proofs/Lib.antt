mod Glued
mod Leads
mod Lines
mod TableLines
mod Whole
pub mod Parts
