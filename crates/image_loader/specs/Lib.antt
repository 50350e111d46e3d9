pub mod Image
pub mod Fault
pub mod FaultText
pub mod Reading
pub mod Answer
