pub mod Faults
pub mod FaultText
pub mod Names
pub mod NameFaults
pub mod Need
pub mod Calls
