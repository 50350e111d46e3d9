pub mod FaultText
pub mod Commands
pub mod Script
pub mod Laws
