pub mod Fault
pub mod FaultText
pub mod Limits
pub mod Spelling
pub mod Reading
pub mod Parts
