pub mod Bytes
pub mod Fault
pub mod FaultText
pub mod Tokens
pub mod Grammar
