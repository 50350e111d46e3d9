pub mod Fault
pub mod FaultText
pub mod Fields
pub mod Names
pub mod Directives
pub mod Words
pub mod Instrs
pub mod Operands
