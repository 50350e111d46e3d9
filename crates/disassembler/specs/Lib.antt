pub mod Disassembled
pub mod Parts
