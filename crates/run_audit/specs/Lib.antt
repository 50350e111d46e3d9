pub mod Fault
pub mod Told
pub mod Lines
pub mod Brackets
pub mod Traces
pub mod Audit
pub mod Laws
