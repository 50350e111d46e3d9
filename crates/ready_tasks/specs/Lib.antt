pub mod Debugs
pub mod Audits
pub mod Commands
pub mod ReadyTasks
