pub mod Fault
pub mod FaultText
pub mod Drafts
pub mod Exported
