pub mod Faults
pub mod FaultText
pub mod Tokens
pub mod Walk
pub mod Typing
